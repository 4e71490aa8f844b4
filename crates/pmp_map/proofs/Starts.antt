-- What the search finds in the table of where the runs of a register file begin.
use Rattle.std.proofs.Common.{◌≡◌, ℕ, ◌+◌, ◌-◌, ◌<◌, ◌≤◌, List, length, slice_index, arith, inl, inr}
use Rattle.std.proofs.lemmas.Bool.{cases_lt}
use Rattle.pmp_core.specs.RegisterFile.{RegisterFile}
use Rattle.pmp_core.specs.declared.access.TheConstants.{ADDRESS_LIMIT}
use Rattle.pmp_core.specs.Decision.{IsOwner}
use Rattle.pmp_map.specs.declared.run.Run.{Run}
use Rattle.pmp_map.specs.declared.run.TheConstants.{RUNS}
use Rattle.pmp_map.specs.declared.search.TheConstants.{PLACES, SHORT, FEW}
use Rattle.pmp_map.specs.Runs.{IsInRun, map_run, AreRuns}
use Rattle.pmp_map.specs.Search.{AreStarts, IsRising, IsBetween, IsWithin}
use Rattle.pmp_map.proofs.Order.{start_past, start_most, starts_rise, in_run}

-- the place is that of the byte's run
pub record IsPlaceOf (runs : List Run) (byte place : ℕ) : Type 0 where
  pub inside : place < length runs
  pub here : IsInRun (map_run runs place) byte

module _ (file : RegisterFile) (runs : List Run) (starts : List ℕ) (are : AreRuns file runs)
    (few : length runs ≤ RUNS) (starts_are : AreStarts runs starts) where
  -- the table of starts rises, past the last run too
  rising : IsRising starts
  rising i j ordered within = rw (starts_are i (omega arith), starts_are j within)
      (elim (cases_lt (length runs) j) [
        | inr inside ↦ starts_rise ADDRESS_LIMIT (IsOwner file) runs are i j ordered inside
        | inl past ↦ omega (
          arith,
          start_past ADDRESS_LIMIT runs j (omega arith),
          start_most ADDRESS_LIMIT (IsOwner file) runs are i,
        )
      ])

  -- past the last run all starts are the end of all bytes
  below_past : (byte k : ℕ) → byte < ADDRESS_LIMIT → k < PLACES → length runs ≤ k → byte < slice_index starts k
  below_past byte k small inside past = omega (arith, starts_are k inside, start_past ADDRESS_LIMIT runs k past)

  within : (byte : ℕ) → byte < ADDRESS_LIMIT → IsWithin starts (length runs) byte
  within byte small = record {
    rising = rising;
    whole = (
      omega (arith, starts_are 0 (omega arith), are.begins),
      below_past byte (PLACES - 1) small (omega arith) (omega arith),
    );
    short = λ short. below_past byte SHORT small (omega arith) short;
    few = λ few. below_past byte FEW small (omega arith) few;
  }

  found : (byte place : ℕ) → byte < ADDRESS_LIMIT → place + 1 < PLACES → IsBetween starts byte place 1
      → IsPlaceOf runs byte place
  found byte place small places between =
      let inside : place < length runs = elim (cases_lt place (length runs)) [
        | inl lt ↦ lt
        | inr past ↦ absurd (omega (
          arith,
          starts_are place (omega arith),
          start_past ADDRESS_LIMIT runs place past,
          between.0,
        ))
      ] in
      record {
        inside = inside;
        here = in_run ADDRESS_LIMIT (IsOwner file) runs are place byte inside
            (omega (arith, starts_are place (omega arith), between.0))
            (omega (arith, between.1, starts_are (place + 1) places));
      }

  -- what the contract of `place_of` says finds the byte's run
  pub place_found : (count byte place : ℕ) → count ≡ length runs → byte < ADDRESS_LIMIT → place + 1 < PLACES
      → (IsWithin starts count byte → IsBetween starts byte place 1) → IsPlaceOf runs byte place
  place_found count byte place all small places between =
      found byte place small places (between (rw all (within byte small)))
