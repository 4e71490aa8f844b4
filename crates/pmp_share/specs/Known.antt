-- What is known of a unit's history.
use Rattle.std.specs.Prelude.{◌≡◌}
use Rattle.pmp_core.specs.declared.access.Access.{Access}
use Rattle.pmp_core.specs.declared.decision.Decision.{Decision}
use Rattle.pmp_core.specs.Ranges.{decision_of}
use Rattle.pmp_core.specs.RegisterFile.{RegisterFile}
use Rattle.pmp_share.specs.declared.knowledge.Known.{Known}
use Rattle.pmp_share.specs.Batches.{Batches, file_from}
use Rattle.pmp_share.specs.Object.{Decides}
use Rattle.pmp_share.specs.Tokens.{UnitId}

-- this prefix of this unit's history
abbrev pub known : UnitId → Batches → Known
known unit list = record { list = list; unit = unit }

-- the register file after it
abbrev pub file_of : Known → RegisterFile
file_of it = file_from it.unit.base it.list

-- the manual's decision there, as computed from the entries' ranges
abbrev pub IsDecidedIn : Known → Access → Decision → Type 0
IsDecidedIn it access decision =
    Decides it.unit.base it.list access decision × (decision ≡ decision_of (file_of it) access)
