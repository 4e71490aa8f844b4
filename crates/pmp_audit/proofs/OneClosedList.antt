-- A file has one list of closed ranges.
use Rattle.std.proofs.Common.{◌≡◌, ◌+◌, ◌≤◌, ℕ, List, [], ◌∷◌, Some, refl, sym, ap, subst, ◌∙◌}
use Rattle.std.proofs.Common.{arith, inl, inr}
use Rattle.std.proofs.lemmas.Bool.{cases_lt}
use Rattle.pmp_core.specs.declared.access.Kind.{Kind}
use Rattle.pmp_core.specs.declared.access.Mode.{Mode}
use Rattle.pmp_core.specs.declared.span.Span.{Span}
use Rattle.pmp_core.specs.RegisterFile.{RegisterFile}
use Rattle.pmp_map.specs.OpenBytes.{IsClosed, IsOpen}
use Rattle.pmp_audit.specs.ClosedRanges.{AreClosedFrom, IsClosedRange, IsFirstClosed}
use Rattle.pmp_audit.proofs.AnsweredBytes.{never_both}

same_span : (one other : Span) → one.first ≡ other.first → one.last ≡ other.last → one ≡ other
same_span one other first last =
    ap (λ (n : ℕ). record { first = n; last = one.last }) first
    ∙ ap (λ (n : ℕ). record { first = other.first; last = n }) last

module _ (file : RegisterFile) (mode : Mode) (kind : Kind) where
  either : (byte : ℕ) → IsOpen file mode kind byte → IsClosed file mode kind byte → ⊥
  either byte is_open is_closed = never_both file kind byte mode mode (λ _. refl) is_open is_closed

  closed_first : (range : Span) → IsClosedRange file mode kind range → IsClosed file mode kind range.first
  closed_first range is = is.closed range.first (omega arith, is.proper)

  module _ (from : ℕ) (one other : Span) (is : IsFirstClosed file mode kind from (Some one))
      (too : IsFirstClosed file mode kind from (Some other)) where
    begins_by : one.first ≤ other.first
    begins_by = elim (cases_lt other.first one.first) [
      | inl before ↦ absurd (either other.first (is.1 other.first too.0 before) (closed_first other too.2))
      | inr by ↦ by
    ]

    ends_by : one.first ≡ other.first → other.last ≤ one.last
    ends_by first = elim (cases_lt one.last other.last) [
      | inl before ↦
          absurd (either (one.last + 1) (is.2.longest (omega (arith, before, too.2.inside)))
          (too.2.closed (one.last + 1) (omega (arith, first, is.2.proper), omega (arith, before))))
      | inr by ↦ by
    ]

  one_range : (from : ℕ) (one other : Span) → IsFirstClosed file mode kind from (Some one)
      → IsFirstClosed file mode kind from (Some other) → one ≡ other
  one_range from one other is too =
      let here = begins_by from one other is too in
      let there = begins_by from other one too is in
      let first : one.first ≡ other.first = omega (arith, here, there) in
      let end = ends_by from one other is too first in
      let other_end = ends_by from other one too is (sym first) in
      same_span one other first (omega (arith, end, other_end))

  pub one_closed_list : (from : ℕ) (one other : List Span) → AreClosedFrom file mode kind from one
      → AreClosedFrom file mode kind from other → one ≡ other
  one_closed_list from [] [] are too = refl
  one_closed_list from [] (range ∷ other) are too =
      absurd (either range.first (are range.first too.0.0 (omega (arith, too.0.2.proper, too.0.2.inside)))
      (closed_first range too.0.2))
  one_closed_list from (range ∷ one) [] are too =
      absurd (either range.first (too range.first are.0.0 (omega (arith, are.0.2.proper, are.0.2.inside)))
      (closed_first range are.0.2))
  one_closed_list from (range ∷ one) (another ∷ other) are too =
      let same = one_range from range another are.0 too.0 in
      let rest = subst (λ (r : Span). AreClosedFrom file mode kind (r.last + 1) one) same are.1 in
      let more = one_closed_list (another.last + 1) one other rest too.1 in
      ap (λ (r : Span). r ∷ one) same ∙ ap (λ (l : List Span). another ∷ l) more
