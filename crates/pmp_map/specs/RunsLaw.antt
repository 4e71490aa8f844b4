-- How the runs of a register file decide accesses (Volume II, 3.7.1.3).
use Rattle.std.specs.Prelude.{◌≡◌, ℕ, ◌+◌, ◌-◌, ◌<◌, ◌≤◌, false, Some, List, length}
use Rattle.pmp_core.specs.declared.access.Access.{Access}
use Rattle.pmp_core.specs.declared.decision.Cause.TheVariants.{Split}
use Rattle.pmp_core.specs.RegisterFile.{RegisterFile}
use Rattle.pmp_core.specs.Decision.{IsByteOf, IsDecision, IsLeast}
use Rattle.pmp_map.specs.declared.run.Run.{Run}
use Rattle.pmp_map.specs.Answers.{decision_by}
use Rattle.pmp_map.specs.Runs.{AreRuns, IsInRun, map_run}

-- an access inside one run is decided by the rule of the run's owner, or as if no entry matches
abbrev pub InsideRunLaw : Type 0
InsideRunLaw = (file : RegisterFile) (runs : List Run) → AreRuns file runs → (k : ℕ) → k < length runs
    → (access : Access) → ((byte : ℕ) → IsByteOf access byte → IsInRun (map_run runs k) byte)
    → IsDecision file access (decision_by file (map_run runs k).owner access)

-- entry i owns one of the runs from `first` to `last`
abbrev pub OwnsOneOf : List Run → (first last i : ℕ) → Type 0
OwnsOneOf runs first last i = (k : ℕ) × (first ≤ k) × (k ≤ last) × ((map_run runs k).owner ≡ Some i)

-- an access from one run into a later one is refused, as a partial match of the least owner from the one to the other
abbrev pub AcrossRunsLaw : Type 0
AcrossRunsLaw = (file : RegisterFile) (runs : List Run) → AreRuns file runs
    → (first last : ℕ) → first < last → last < length runs
    → (access : Access) → IsInRun (map_run runs first) access.start
    → IsInRun (map_run runs last) (access.start + access.length - 1)
    → (i : ℕ) × IsLeast (OwnsOneOf runs first last) (Some i)
    × IsDecision file access (record { allowed = false; cause = Split i })
