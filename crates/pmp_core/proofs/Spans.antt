-- The bytes that an entry matches are those of its span, and of no other.
use borrow.Author.Tests.{tests}
use Rattle.std.proofs.Common.{rules, ◌≡◌, ◌↔◌, ℕ, ◌≤◌, Some, None, refl, ap, arith}
use Rattle.pmp_core.specs.declared.range.ByteRange.{ByteRange}
use Rattle.pmp_core.specs.declared.span.Span.{Span}
use Rattle.pmp_core.specs.RegisterFile.{RegisterFile, HasAddresses}
use Rattle.pmp_core.specs.Matching.{Matches}
use Rattle.pmp_core.specs.Ranges.{IsInRange}
use Rattle.pmp_core.specs.Span.{IsSpan, span_in, span_of}
use Rattle.pmp_core.specs.SpanLaw.{OneSpanLaw}
use Rattle.pmp_core.proofs.Matches.{matches_range}

-- ---- one span

same_span : (one other : Span) → one.first ≡ other.first → one.last ≡ other.last → one ≡ other
same_span one other first last = search rules

-- all bytes of the one are in the other
inside : (file : RegisterFile) (i : ℕ) (one other : Span) → IsSpan file i (Some one)
    → IsSpan file i (Some other) → (other.first ≤ one.first) × (one.last ≤ other.last)
inside file i one other (proper, small, matched) (_, _, other_matched) =
    let first = (other_matched one.first (omega arith)).0 ((matched one.first (omega arith)).1 (omega arith, proper)) in
    let last = (other_matched one.last small).0 ((matched one.last small).1 (proper, omega arith)) in
    (first.0, last.1)

no_span : (file : RegisterFile) (i : ℕ) (one : Span) → IsSpan file i (Some one) → IsSpan file i None → ⊥
no_span file i one (proper, small, matched) none =
    none one.last small ((matched one.last small).1 (proper, omega arith))

pub one_span : OneSpanLaw
one_span file i None None p q = refl
one_span file i None (Some other) p q = absurd (no_span file i other q p)
one_span file i (Some one) None p q = absurd (no_span file i one p q)
one_span file i (Some one) (Some other) p q =
    let here = inside file i one other p q in
    let there = inside file i other one q p in
    ap (λ (span : Span). Some span) (same_span one other (omega arith) (omega arith))

-- ---- the span of an entry's range

span_by : (file : RegisterFile) (i : ℕ) (range : ByteRange)
    → ((byte : ℕ) → Matches file i byte ↔ IsInRange range byte) → IsSpan file i (span_in range)
span_by file i range matched = search rules

pub is_span : (file : RegisterFile) (i : ℕ) → HasAddresses file → IsSpan file i (span_of file i)
unfolding span_of
is_span file i addresses = search (rules, tests, span_by, matches_range)
