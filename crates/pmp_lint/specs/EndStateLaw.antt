-- What the runs of all bytes show about an entry (Volume II, 3.7.1.3).
use Rattle.std.specs.Prelude.{◌≡◌, ◌↔◌, ℕ, ◌<◌, false, Some, List}
use Rattle.pmp_core.specs.declared.access.TheConstants.{ADDRESS_LIMIT}
use Rattle.pmp_core.specs.Decision.{IsOwner}
use Rattle.pmp_core.specs.RegisterFile.{RegisterFile}
use Rattle.pmp_map.specs.declared.run.Run.{Run}
use Rattle.pmp_map.specs.Runs.{AreRuns}
use Rattle.pmp_lint.specs.EndState.{owns_some}

-- no run is the entry's exactly if it is the lowest-numbered matching entry of no byte
abbrev pub OwnsNothingLaw : Type 0
OwnsNothingLaw = (file : RegisterFile) (runs : List Run) → AreRuns file runs → (i : ℕ)
    → owns_some runs i ≡ false ↔ ((byte : ℕ) → byte < ADDRESS_LIMIT → ¬ (IsOwner file byte (Some i)))
