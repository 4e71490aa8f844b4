-- An entry owns no byte exactly where none of the runs of all bytes is its own.
use Rattle.std.proofs.Common.{◌≡◌, ◌∙◌, sym, refl, ap, ℕ, ◌+◌, ◌-◌, ◌<◌, ◌≤◌, true, false, List, length, Option, Some, None}
use Rattle.std.proofs.Common.{arith, eq-eqb, inl, inr, true≢false}
use Rattle.std.proofs.lemmas.Bool.{cases_lt}
use Rattle.std.proofs.lemmas.List.Elements.{All-from_get_or}
use Rattle.std.proofs.lemmas.List.Folds.{list_any_at, list_any_none}
use Rattle.std.proofs.lemmas.Grind.{common_steps}
use Rattle.pmp_core.specs.declared.access.TheConstants.{ADDRESS_LIMIT}
use Rattle.pmp_core.specs.Decision.{IsOwner}
use Rattle.pmp_core.specs.Matching.{Matches}
use Rattle.pmp_core.specs.RegisterFile.{RegisterFile}
use Rattle.pmp_core.proofs.Decisions.{least_once}
use Rattle.pmp_map.specs.declared.run.Run.{Run}
use Rattle.pmp_map.specs.Runs.{AreRuns, IsInRun, map_run}
use Rattle.pmp_map.proofs.Order.{run_among, start_below, start_past}
use Rattle.pmp_lint.specs.EndState.{is_owner, owns_some}
use Rattle.pmp_lint.specs.EndStateLaw.{OwnsNothingLaw}

abbrev past : Run
past = record { first = ADDRESS_LIMIT; last = ADDRESS_LIMIT; owner = None }

is_other : (i : ℕ) (owner : Option ℕ) → ¬ (owner ≡ Some i) → is_owner i owner ≡ false
is_other i None never = refl
is_other i (Some other) never =
    let differ : ¬ (other ≡ i) = λ same. never (ap Some same) in
    grind (arith, common_steps)

module _ (file : RegisterFile) (runs : List Run) (are : AreRuns file runs) (i : ℕ) where
  some_run : 0 < length runs
  some_run = elim (cases_lt 0 (length runs)) [
    | inl some ↦ some
    | inr none ↦ absurd (omega (arith, start_past ADDRESS_LIMIT runs 0 none, are.begins))
  ]

  -- each byte lies in a run
  run_of : (byte : ℕ) → byte < ADDRESS_LIMIT
      → (k : ℕ) × (0 ≤ k) × (k ≤ length runs - 1) × IsInRun (map_run runs k) byte
  run_of byte inside =
      let last : length runs - 1 + 1 ≡ length runs = omega (arith, some_run) in
      let end = start_past ADDRESS_LIMIT runs (length runs) (omega arith) in
      run_among ADDRESS_LIMIT (IsOwner file) runs are byte 0 (length runs - 1) (omega arith) (omega (arith, some_run))
      (omega (arith, are.begins)) (rw last (omega (arith, end, inside)))

  no_byte : owns_some runs i ≡ false → (byte : ℕ) → byte < ADDRESS_LIMIT → ¬ (IsOwner file byte (Some i))
  no_byte none byte inside owned =
      let run = run_of byte inside in
      let within : run.0 < length runs = omega (arith, run.2, some_run) in
      let same : (map_run runs run.0).owner ≡ Some i =
      least_once (λ j. Matches file j byte) _ _ (are.owned run.0 byte within run.3) owned in
      let is : is_owner i (map_run runs run.0).owner ≡ true = ap (is_owner i) same ∙ eq-eqb i i refl in
      true≢false (sym (list_any_at (λ (r : Run). is_owner i r.owner) runs run.0 past within is) ∙ none)

  no_run : ((byte : ℕ) → byte < ADDRESS_LIMIT → ¬ (IsOwner file byte (Some i))) → owns_some runs i ≡ false
  no_run none = list_any_none (λ (r : Run). is_owner i r.owner) runs
      (All-from_get_or (λ (r : Run). is_owner i r.owner ≡ false) runs past (λ k within.
      let run = map_run runs k in
      let first : run.first < ADDRESS_LIMIT = start_below ADDRESS_LIMIT (IsOwner file) runs are k within in
      let here : IsInRun run run.first = (omega arith, are.proper k within) in
      is_other i run.owner (λ same. none run.first first (rw same at (are.owned k run.first within here)))))

pub owns_nothing : OwnsNothingLaw
owns_nothing file runs are i = (no_byte file runs are i, no_run file runs are i)
