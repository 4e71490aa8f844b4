-- The lines of a script with each shorthand replaced by its writes.
use Rattle.std.specs.Prelude.{ℕ, List, [], ◌∷◌, ◌++◌, map, filter_map, Option, Some, None, Result, Ok, Err, fold}
use Rattle.std.specs.List.{cons_option}
use Rattle.pmp_core.specs.declared.event.Event.{Event}
use Rattle.pmp_core.specs.declared.size.Size.TheVariants.{Sixteen}
use Rattle.pmp_core.specs.Hart.{profile_of}
use Rattle.pmp_core.specs.RegisterFile.{reset_file, RegisterFile}
use Rattle.pmp_text.specs.declared.flaw.Flaw.{Flaw}
use Rattle.pmp_text.specs.declared.script.statement.Statement.{Statement}
use Rattle.pmp_text.specs.declared.script.head.HeadLine.{HeadLine}
use Rattle.pmp_text.specs.declared.script.shorthand.Writes.{Writes}
use Rattle.pmp_text.specs.declared.script.version.Version.{Version}
use Rattle.pmp_text.specs.declared.script.version.Version.TheVariants.{Sized, Headed}
use Rattle.pmp_text.specs.Heads.{bits_fault, start_said}
use Rattle.pmp_text.specs.Shorthands.{shorthand_of, writes_of}
use Rattle.pmp_text.specs.Flaws.{and_then}
use Rattle.pmp_core.specs.RegisterWrite.{step}
use Rattle.pmp_text.specs.ScriptLines.{Line, significant_lines, version_named}
use Rattle.pmp_text.specs.ScriptEvents.{event_of, head_lines}
use Rattle.pmp_text.specs.declared.script.statement.Statement.TheVariants as statement

-- the register file that a head gives; if there is no such hart, and so no script, that of the usual one
abbrev pub file_said : List HeadLine → RegisterFile
file_said head = elim (bits_fault head) [ None ↦ start_said head | Some fault ↦ reset_file (profile_of Sixteen) ]

-- the register file after lines of version 3
abbrev pub file_behind : List Line → RegisterFile
file_behind before = fold step (file_said (head_lines Headed before)) (filter_map (event_of Headed) before)

-- a line that means this instead of what its words mean
abbrev pub in_place : Line → Result Statement Flaw → Line
in_place line says = record line { stands_for = Some says }

abbrev pub listed : Writes → List Event
listed writes = cons_option writes.address (writes.last ∷ [])

abbrev pub written_out : Line → Result Writes Flaw → List Line
written_out line (Ok writes) = map (λ event. in_place line (Ok (statement.Event event))) (listed writes)
written_out line (Err flaw) = in_place line (Err flaw) ∷ []

-- a line in longhand, with this file before it: itself, or instead of a shorthand its writes
abbrev pub longhand : RegisterFile → Line → List Line
longhand file line = elim (shorthand_of line.words) [
  | Some says ↦ written_out line (and_then says (writes_of file))
  | None ↦ line ∷ []
]

-- lines in longhand, after others in longhand
abbrev pub longhand_from : (before : List Line) → List Line → List Line
longhand_from before [] = []
longhand_from before (line ∷ more) =
    let these = longhand (file_behind before) line in these ++ longhand_from (before ++ these) more

-- versions 1 and 2 have no shorthands
abbrev pub in_longhand : Version → List Line → List Line
in_longhand (Sized size) lines = lines
in_longhand Headed lines = longhand_from [] lines

abbrev pub meant_behind : Line → List Line → Option Version → List Line
meant_behind first more None = first ∷ more
meant_behind first more (Some version) = first ∷ in_longhand version more

-- the lines of a text, with those after its version in longhand
abbrev pub lines_in_longhand : List Line → List Line
lines_in_longhand [] = []
lines_in_longhand (first ∷ more) = meant_behind first more (version_named first.words)

abbrev pub meant_lines : List ℕ → List Line
meant_lines text = lines_in_longhand (significant_lines text)
