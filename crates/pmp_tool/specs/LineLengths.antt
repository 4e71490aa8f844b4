-- How long the line for a refusal is, and for a note.
use Rattle.std.specs.Prelude.{ℕ, List, ◌<◌, ◌≤◌, ◌^◌, length, ⊤}
use Rattle.pmp_text.specs.declared.fault.Fault.{Fault}
use Rattle.pmp_text.specs.declared.fault.Place.{Place}
use Rattle.pmp_text.specs.declared.fault.Place.TheVariants.{In, PlanEntries, PlanRows}
use Rattle.pmp_names.specs.declared.hart_name.TheConstants.{HART_NAME}
use Rattle.pmp_tool.specs.FaultLines.{hart_line_text, line_text}
use Rattle.pmp_tool.specs.declared.fault_line.TheConstants.{LONGEST_LINE, LONGEST_OF_HART}
use Rattle.pmp_tool.specs.Notes.{note_line}
use Rattle.pmp_tool.specs.declared.note.Note.{Note}
use Rattle.pmp_tool.specs.declared.note.Note.TheVariants as note
use Rattle.pmp_tool.specs.declared.note.TheConstants.{LONGEST_NOTE}

-- each number of a place fits in 64 bits
abbrev pub IsNumbered : Place → Type 0
IsNumbered (In source number part) = number < 2 ^ 64
IsNumbered (PlanRows one other) = (one < 2 ^ 64) × (other < 2 ^ 64)
IsNumbered (PlanEntries row takes found) = (row < 2 ^ 64) × (takes < 2 ^ 64) × (found < 2 ^ 64)
IsNumbered _ = ⊤

-- a fault's line, with its LF, fits in the program's buffer for it
abbrev pub LineFitsLaw : Type 0
LineFitsLaw = (fault : Fault) → IsNumbered fault.place → length (line_text fault) ≤ LONGEST_LINE

-- and so does that for one of several harts
abbrev pub HartLineFitsLaw : Type 0
HartLineFitsLaw = (name : List ℕ) (fault : Fault) → length name ≤ HART_NAME → IsNumbered fault.place
    → length (hart_line_text name fault) ≤ LONGEST_OF_HART

abbrev pub IsNumberedNote : Note → Type 0
IsNumberedNote note.Start = ⊤
IsNumberedNote (note.TraceRow row) = row < 2 ^ 64
IsNumberedNote (note.PolicyRow row) = row < 2 ^ 64
IsNumberedNote note.NoRows = ⊤
IsNumberedNote (note.Guessed hart entries left) = (hart < 2 ^ 64) × (entries < 2 ^ 64) × (left < 2 ^ 64)
IsNumberedNote (note.Taken hart entries) = (hart < 2 ^ 64) × (entries < 2 ^ 64)
IsNumberedNote (note.Scripts count) = count < 2 ^ 64

-- and so does a note's
abbrev pub NoteFitsLaw : Type 0
NoteFitsLaw = (note : Note) → IsNumberedNote note → length (note_line note) ≤ LONGEST_NOTE
