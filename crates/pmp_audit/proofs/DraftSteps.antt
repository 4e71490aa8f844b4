-- The rows of a draft, range by range and part by part.
use Rattle.std.proofs.Common.{◌≡◌, ℕ, ◌+◌, ◌≤◌, List, [], ◌∷◌, ◌++◌, Some, None, refl, sym, ap, subst, ◌∙◌, arith}
use Rattle.std.proofs.Common.{append_assoc}
use Rattle.std.proofs.Common.{append-nil}
use Rattle.std.specs.List.{flat_map}
use Rattle.std.proofs.lemmas.List.Concat.{flat_map-append}
use Rattle.pmp_core.specs.declared.access.Kind.{Kind}
use Rattle.pmp_core.specs.declared.access.Kind.TheVariants.{Fetch, Load, Store}
use Rattle.pmp_core.specs.declared.access.Mode.{Mode}
use Rattle.pmp_core.specs.declared.access.Mode.TheVariants.{M, U}
use Rattle.pmp_core.specs.declared.access.TheConstants.{ADDRESS_LIMIT}
use Rattle.pmp_core.specs.declared.span.Span.{Span}
use Rattle.pmp_core.specs.RegisterFile.{RegisterFile}
use Rattle.pmp_audit.specs.Answers.{IsAppended}
use Rattle.pmp_audit.specs.ClosedRanges.{AreClosedFrom, AreClosedRanges, IsFirstClosed}
use Rattle.pmp_audit.specs.PolicyDraft.{AreNeverRows, IsDraftText, IsModeText, header_text, never_row}

module _ (file : RegisterFile) (moment : List ℕ) (mode : Mode) (kind : Kind) (before : List ℕ) where
  -- the rows of the ranges before this byte were appended; with those from there on, they are all
  pub record AreAppendedTo (from : ℕ) (after : List ℕ) : Type 0 where
    pub inside : from ≤ ADDRESS_LIMIT
    pub ranges : List Span
    pub text : after ≡ before ++ flat_map (never_row moment mode kind) ranges
    pub followed : (rest : List Span) → AreClosedFrom file mode kind from rest
        → AreClosedRanges file mode kind (ranges ++ rest)

  pub none_appended : AreAppendedTo 0 before
  none_appended =
      record { inside = omega arith; ranges = []; text = sym (append-nil before); followed = λ rest are. are }

  pub one_more_appended : (from : ℕ) (after longer : List ℕ) (range : Span) → AreAppendedTo from after
      → IsFirstClosed file mode kind from (Some range) → longer ≡ after ++ never_row moment mode kind range
      → AreAppendedTo (range.last + 1) longer
  one_more_appended from after longer range so_far is row =
      let rows = flat_map (never_row moment mode kind) in
      let more : rows (so_far.ranges ++ range ∷ []) ≡ rows so_far.ranges ++ never_row moment mode kind range =
      flat_map-append (never_row moment mode kind) so_far.ranges (range ∷ [])
      ∙ ap (λ l. rows so_far.ranges ++ l) (append-nil (never_row moment mode kind range)) in
      record {
        inside = omega (arith, is.2.inside);
        ranges = so_far.ranges ++ range ∷ [];
        text = row ∙ ap (λ l. l ++ never_row moment mode kind range) so_far.text
            ∙ append_assoc before (rows so_far.ranges) (never_row moment mode kind range)
            ∙ ap (λ l. before ++ l) (sym more);
        followed = λ rest are.
            subst (AreClosedRanges file mode kind) (sym (append_assoc so_far.ranges (range ∷ []) rest))
            (so_far.followed (range ∷ rest) (is, are));
      }

  pub all_appended : (from : ℕ) (after : List ℕ) → AreAppendedTo from after → IsFirstClosed file mode kind from None
      → IsAppended (λ (_ : Unit {0}). AreNeverRows file moment mode kind) before after tt
  all_appended from after so_far none = record {
    text = flat_map (never_row moment mode kind) so_far.ranges;
    says = record {
      ranges = so_far.ranges;
      ranges_are = subst (AreClosedRanges file mode kind) (append-nil so_far.ranges) (so_far.followed [] none);
      rows = refl;
    };
    appended = so_far.text;
  }

-- one text after another
behind : (before first second one two : List ℕ) → first ≡ before ++ one → second ≡ first ++ two
    → second ≡ before ++ (one ++ two)
behind before first second one two e f = f ∙ ap (λ l. l ++ two) e ∙ append_assoc before one two

module _ (file : RegisterFile) (moment before first second third : List ℕ) where
  abbrev Appends : Mode → Kind → (before after : List ℕ) → Type 0
  Appends mode kind before after = IsAppended (λ (_ : Unit {0}). AreNeverRows file moment mode kind) before after tt

  pub mode_appended : (mode : Mode) → Appends mode Fetch before first → Appends mode Load first second
      → Appends mode Store second third
      → IsAppended (λ (_ : Unit {0}). IsModeText file moment mode) before third tt
  mode_appended mode fetches loads stores = record {
    text = fetches.text ++ (loads.text ++ stores.text);
    says = record {
      fetches = fetches.text;
      fetches_are = fetches.says;
      loads = loads.text;
      loads_are = loads.says;
      stores = stores.text;
      stores_are = stores.says;
      text_is = refl;
    };
    appended = behind before first third fetches.text (loads.text ++ stores.text) fetches.appended
        (behind first second third loads.text stores.text loads.appended stores.appended);
  }

  pub draft_appended : first ≡ before ++ header_text
      → IsAppended (λ (_ : Unit {0}). IsModeText file moment M) first second tt
      → IsAppended (λ (_ : Unit {0}). IsModeText file moment U) second third tt
      → IsAppended (λ (_ : Unit {0}). IsDraftText file moment) before third tt
  draft_appended header machine others = record {
    text = header_text ++ (machine.text ++ others.text);
    says = record {
      machine = machine.text;
      machine_is = machine.says;
      others = others.text;
      others_is = others.says;
      text_is = refl;
    };
    appended = behind before first third header_text (machine.text ++ others.text) header
        (behind first second third machine.text others.text machine.appended others.appended);
  }
