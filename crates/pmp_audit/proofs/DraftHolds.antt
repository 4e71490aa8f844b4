-- Each row of a draft holds for its script.
use Rattle.std.proofs.Common.{◌≡◌, ℕ, ◌+◌, ◌^◌, ◌<◌, ◌≤◌, Bool, true, false, List, [], ◌∷◌, ◌++◌, Option}
use Rattle.std.proofs.Common.{Ok, length, map}
use Rattle.std.proofs.Common.{take, fold, refl, sym, ap, subst, ◌∙◌, arith}
use Rattle.std.specs.Prelude.{is_some}
use Rattle.std.specs.List.{AllByRecursion, flat_map}
use Rattle.std.proofs.Math.Seq.{take-length}
use Rattle.std.proofs.lemmas.List.{length-map}
use Rattle.std.proofs.lemmas.List.Elements.{All-from_recursion}
use Rattle.pmp_core.specs.declared.access.Kind.{Kind}
use Rattle.pmp_core.specs.declared.access.Kind.TheVariants.{Fetch, Load, Store}
use Rattle.pmp_core.specs.declared.access.Mode.{Mode}
use Rattle.pmp_core.specs.declared.access.Mode.TheVariants.{M, S, U}
use Rattle.pmp_core.specs.declared.event.Event.{Event}
use Rattle.pmp_core.specs.declared.span.Span.{Span}
use Rattle.pmp_core.specs.Histories.{joined}
use Rattle.pmp_core.specs.RegisterFile.{RegisterFile}
use Rattle.pmp_core.specs.RegisterWrite.{step}
use Rattle.pmp_core.specs.Rights.{allows}
use Rattle.pmp_map.specs.Answers.{owned_rights}
use Rattle.pmp_text.specs.declared.lines.verdict.Verdict.TheVariants.{Holds}
use Rattle.pmp_text.specs.declared.moments.Coming.TheVariants.{Met}
use Rattle.pmp_text.specs.declared.policy.Demand.TheVariants.{Never}
use Rattle.pmp_text.specs.declared.policy.Kinds.TheVariants.{One}
use Rattle.pmp_text.specs.declared.policy.PolicyRow.{PolicyRow}
use Rattle.pmp_text.specs.declared.trace.reader.TheConstants.{MAX_TRACE}
use Rattle.pmp_text.specs.Contents.{ScriptContents}
use Rattle.pmp_text.specs.Policies.{has_mode, policy_fields_fault, same_kind}
use Rattle.pmp_text.specs.Reports.{file_behind}
use Rattle.pmp_lint.specs.EndState.{end_of}
use Rattle.pmp_audit.specs.declared.policy_check.steps.Pace.{Pace}
use Rattle.pmp_audit.specs.declared.policy_check.steps.Pace.TheVariants.{Events, Publications}
use Rattle.pmp_audit.specs.ClosedRanges.{AreClosedFrom, IsClosedRange}
use Rattle.pmp_audit.specs.Moments.{AreMoments}
use Rattle.pmp_audit.specs.PolicyCheck.{IsVerdict, state_after, step_count}
use Rattle.pmp_audit.specs.PolicyDraft.{AreNeverRows, HoldsFor, IsDraftText, IsModeText, kind_word, last_moment}
use Rattle.pmp_audit.specs.PolicyDraft.{last_word}
use Rattle.pmp_audit.specs.PolicyDraft.{modes_word, never_fields, never_row}
use Rattle.pmp_audit.proofs.AnsweredBytes.{never_both, others_alike}
use Rattle.pmp_audit.proofs.DraftFields.{is_last, modes_like, never_said, no_fault, row}
use Rattle.pmp_audit.proofs.DraftRows.{AreRows, Entry, IsRead, both_rows, meaning, no_rows, one_row, rows_in}
use Rattle.pmp_audit.proofs.PlainRows.{ArePlain, Plain}
use Rattle.pmp_audit.proofs.PolicySteps.{alone}
use Rattle.pmp_audit.proofs.ReadNumbers.{address_plain, decimal_plain}

-- ---- the last state

joined_alone : (events : List Event) → joined (map alone events) ≡ events
joined_alone [] = refl
joined_alone (event ∷ more) = ap (λ (l : List Event). event ∷ l) (joined_alone more)

-- after all publications, all steps are done
at_end : (pace : Pace) (script : ScriptContents)
    → state_after pace script (step_count pace script.batches (length script.batches)) ≡ end_of script
at_end Publications script = refl
at_end Events script =
    let all = joined script.batches in
    ap (λ (b : List (List Event)). file_behind script.start (take (length (joined b)) (map alone all)))
    (take-length script.batches)
    ∙ ap (λ (n : ℕ). file_behind script.start (take n (map alone all))) (sym (length-map all alone))
    ∙ ap (file_behind script.start) (take-length (map alone all))
    ∙ ap (λ (events : List Event). fold step script.start events) (joined_alone all)
    ∙ ap (file_behind script.start) (sym (take-length script.batches))

-- ---- a row

kinds_alike : (kind other : Kind) → same_kind kind other ≡ true → other ≡ kind
kinds_alike Fetch Fetch same = refl
kinds_alike Load Load same = refl
kinds_alike Store Store same = refl
kinds_alike kind other same = absurd cc

rights_alike : (file : RegisterFile) (owner : Option ℕ) (kind : Kind) (mode other : Mode)
    → has_mode (modes_like mode) other ≡ true
    → allows (owned_rights file owner other) kind ≡ allows (owned_rights file owner mode) kind
rights_alike file owner kind M M has = refl
rights_alike file owner kind S S has = refl
rights_alike file owner kind U U has = refl
rights_alike file owner kind S U has = ap (λ rights. allows rights kind) (sym (others_alike file owner))
rights_alike file owner kind U S has = ap (λ rights. allows rights kind) (others_alike file owner)
rights_alike file owner kind mode other has = absurd cc

abbrev Kept : ScriptContents → PolicyRow → Type 0
Kept script row = (pace : Pace) → IsVerdict pace script row Holds

module _ (script : ScriptContents) (few : length script.batches < 2 ^ 64) (mode : Mode) (kind : Kind) (range : Span)
    (is : IsClosedRange (end_of script) mode kind range) where
  own : PolicyRow
  own = record {
    from = length script.batches;
    to = length script.batches;
    modes = modes_like mode;
    kinds = One kind;
    first = range.first;
    last = range.last;
    demand = Never;
    coming = Met;
    is_bare = false;
    forward = omega arith;
    ordered = is.proper;
    inside = is.inside;
  }

  own_holds : (pace : Pace) → IsVerdict pace script own Holds
  unfolding own
  own_holds pace done after until byte from to (other, way, named, has, opened) =
      let at : step_count pace script.batches (length script.batches) ≡ done = omega (arith, after, until) in
      let file : state_after pace script done ≡ end_of script =
      ap (state_after pace script) (sym at) ∙ at_end pace script in
      let there = rw (file, kinds_alike kind way has) at opened in
      never_both (end_of script) kind byte mode other
      (λ owner. rights_alike (end_of script) owner kind mode other named) there (is.closed byte (from, to))

  own_read : IsRead (AreMoments script) (Kept script)
      (record { words = last_moment script ∷ never_fields mode kind range; row = own })
  unfolding own
  own_read = record {
    said = λ moments are.
        row moments (last_moment script) mode kind range is.proper is.inside
        (is_last moments script.marks (length script.batches) are.marks are.publications few)
        ∙ ap (λ (n : ℕ). Ok (never_said n mode kind range)) are.publications;
    fine = λ moments are.
        ap (λ (n : ℕ). policy_fields_fault moments.publications (never_said n mode kind range)) (sym are.publications)
        ∙ no_fault moments (last_moment script) mode kind range is.proper is.inside;
    kept = own_holds;
  }

-- ---- its text

last_plain : (has_names : Bool) (publications : ℕ) → publications < 2 ^ 64 → Plain (last_word has_names publications)
last_plain true publications few = refl
last_plain false publications few = decimal_plain publications few

modes_plain : (mode : Mode) → Plain (modes_word mode)
modes_plain M = refl
modes_plain S = refl
modes_plain U = refl

kind_plain : (kind : Kind) → Plain (kind_word kind)
kind_plain Fetch = refl
kind_plain Load = refl
kind_plain Store = refl

module _ (script : ScriptContents) (few : length script.batches < 2 ^ 64) where
  abbrev Rows : List ℕ → Type 0
  Rows text = AreRows (AreMoments script) (Kept script) text

  module _ (mode : Mode) (kind : Kind) where
    own_plain : (range : Span) → IsClosedRange (end_of script) mode kind range
        → ArePlain (last_moment script ∷ never_fields mode kind range)
    own_plain range is = (
      last_plain (is_some script.marks) (length script.batches) few,
      (
        refl,
        (
          modes_plain mode,
          (
            kind_plain kind,
            (
              address_plain range.first (omega (arith, is.proper, is.inside)),
              (
                address_plain range.last (omega (arith, is.inside)),
                (refl, tt),
              ),
            ),
          ),
        ),
      ),
    )

    range_rows : (range : Span) → IsClosedRange (end_of script) mode kind range
        → Rows (never_row (last_moment script) mode kind range)
    unfolding never_row
    range_rows range is =
        one_row (AreMoments script) (Kept script) (last_moment script) [] _
        (own script few mode kind range is) (own_plain range is) (own_read script few mode kind range is)

    ranges_rows : (from : ℕ) (ranges : List Span) → AreClosedFrom (end_of script) mode kind from ranges
        → Rows (flat_map (never_row (last_moment script) mode kind) ranges)
    ranges_rows from [] are = no_rows (AreMoments script) (Kept script)
    ranges_rows from (range ∷ rest) are =
        both_rows _ _ _ _ (range_rows range are.0.2) (ranges_rows (range.last + 1) rest are.1)

    kind_rows : (text : List ℕ) → AreNeverRows (end_of script) (last_moment script) mode kind text → Rows text
    kind_rows text is = subst Rows (sym is.rows) (ranges_rows 0 is.ranges is.ranges_are)

  mode_rows : (mode : Mode) (text : List ℕ) → IsModeText (end_of script) (last_moment script) mode text → Rows text
  mode_rows mode text is = subst Rows (sym is.text_is)
      (both_rows _ _ _ _ (kind_rows mode Fetch is.fetches is.fetches_are)
      (both_rows _ _ _ _ (kind_rows mode Load is.loads is.loads_are) (kind_rows mode Store is.stores is.stores_are)))

  all_kept : (entries : List Entry) (pace : Pace)
      → AllByRecursion (IsRead (AreMoments script) (Kept script)) entries
      → AllByRecursion (λ row. IsVerdict pace script row Holds) (rows_in entries)
  all_kept [] pace are = tt
  all_kept (entry ∷ more) pace (is, rest) = (is.kept pace, all_kept more pace rest)

  pub draft_holds : (text : List ℕ) → IsDraftText (end_of script) (last_moment script) text → length text ≤ MAX_TRACE
      → HoldsFor script text
  draft_holds text is short =
      let body = is.machine ++ is.others in
      let rows : Rows body =
      both_rows _ _ _ _ (mode_rows M is.machine is.machine_is) (mode_rows U is.others is.others_is) in
      subst (HoldsFor script) (sym is.text_is) (record {
        rows = rows_in rows.entries;
        policy_means = λ moments are.
            meaning (AreMoments script) (Kept script) moments are body rows
            (rw is.text_is at short);
        hold = λ pace. All-from_recursion (λ row. IsVerdict pace script row Holds) (rows_in rows.entries)
            (all_kept rows.entries pace rows.are);
      })
