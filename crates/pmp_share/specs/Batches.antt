-- Lists of batches. `joined` of pmp_core concatenates the batches of a list.
use Rattle.std.specs.Prelude.{◌≡◌, ℕ, List, ◌++◌, fold, length}
use Rattle.pmp_core.specs.declared.event.Event.{Event}
use Rattle.pmp_core.specs.Histories.{joined}
use Rattle.pmp_core.specs.RegisterFile.{RegisterFile}
use Rattle.pmp_core.specs.RegisterWrite.{step}

abbrev pub Batches : Type 0
Batches = List (List Event)

-- the other list is a prefix of the batches
abbrev pub StartsWith : Batches → Batches → Type 0
StartsWith batches front = (rest : Batches) × (batches ≡ front ++ rest)

-- the number of events in the batches
abbrev pub event_count : Batches → ℕ
event_count batches = length (joined batches)

-- the register file after all events of the batches, starting from the base. If the base is the reset file, this is
-- `file_after` of pmp_core
abbrev pub file_from : (base : RegisterFile) → Batches → RegisterFile
file_from base batches = fold step base (joined batches)
