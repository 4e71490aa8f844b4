-- The rows of events, while they are written.
use Rattle.std.specs.Prelude.{◌≡◌, ℕ, ◌+◌, List, [], ◌∷◌, length, fold, map, if◌then◌else◌}
use Rattle.pmp_core.specs.RegisterFile.{RegisterFile}
use Rattle.pmp_core.specs.RegisterWrite.{step}
use Rattle.pmp_text.specs.Cells.{RowValue}
use Rattle.pmp_text.specs.Effects.{effect_row}
use Rattle.pmp_audit.specs.declared.write_list.EventSummary.{EventSummary}
use Rattle.pmp_audit.specs.WriteList.{PlacedEvent, has_fault}

abbrev pub file_left : RegisterFile → List PlacedEvent → RegisterFile
file_left file events = fold step file (map (λ it. it.event) events)

-- the rows of events from this number and this file on
abbrev pub rows_from : (number : ℕ) → RegisterFile → List PlacedEvent → List RowValue
rows_from number file [] = []
rows_from number file (it ∷ rest) =
    effect_row (record { number = number; publication = it.publication; line = it.line }) file it.event
    ∷ rows_from (number + 1) (step file it.event) rest

-- how many of them aren't stored as written, and that isn't accepted
abbrev pub turned_from : (accepted : List ℕ) → RegisterFile → List PlacedEvent → ℕ
turned_from accepted file [] = 0
turned_from accepted file (it ∷ rest) =
    (if has_fault accepted file it.line it.event then 1 else 0) + turned_from accepted (step file it.event) rest

-- where rows went so far, a register file, and the counts
pub record Written (A : Type 0) : Type 0 where
  pub rows : A
  pub file : RegisterFile
  pub summary : EventSummary

-- these events lead from the one state to the other, are counted, and their rows were added
pub record AreWritten {A : Type 0} (Adds : List RowValue → A → A → Type 0) (accepted : List ℕ) (from to : Written A)
    (events : List PlacedEvent) : Type 0 where
  pub added : Adds (rows_from (from.summary.events + 1) from.file events) from.rows to.rows
  pub file_is : to.file ≡ file_left from.file events
  pub counted : to.summary.events ≡ from.summary.events + length events
  pub turned : to.summary.not_stored ≡ from.summary.not_stored + turned_from accepted from.file events
