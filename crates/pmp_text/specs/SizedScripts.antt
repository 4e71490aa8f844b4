-- Scripts where there are no versions but 1 and 2, which are for a unit of 16 or 64 entries from reset on.
use Rattle.std.specs.Prelude.{◌≡◌, ◌⊎◌, ℕ, List, [], ◌∷◌, length, Option, Some, None, Result, Ok, Err, nat_lt, if◌then◌else◌}
use Rattle.pmp_core.specs.declared.event.Event.{Event}
use Rattle.pmp_core.specs.declared.size.Size.{Size}
use Rattle.pmp_text.specs.declared.refusal.Refusal.{Refusal}
use Rattle.pmp_text.specs.declared.refusal.Refusal.TheVariants as refusal
use Rattle.pmp_text.specs.declared.fault.Fault.{Fault}
use Rattle.pmp_text.specs.declared.script.reader.TheConstants.{MAX_SCRIPT}
use Rattle.pmp_text.specs.declared.script.sized.ScriptFault.{ScriptFault}
use Rattle.pmp_text.specs.declared.script.sized.ScriptKind.{ScriptKind}
use Rattle.pmp_text.specs.declared.script.sized.ScriptKind.TheVariants.{BadVersion, BadLine, BadName, OddCfg, BadNumber}
use Rattle.pmp_text.specs.declared.script.sized.ScriptKind.TheVariants.{BatchFull, Unpublished, TooLong, Memory}
use Rattle.pmp_text.specs.Contents.{ScriptContents}
use Rattle.pmp_text.specs.ScriptLines.{Line, is_headed_by, significant_lines}
use Rattle.pmp_text.specs.Scripts.{script_meaning}
use Rattle.pmp_text.specs.FaultPlaces.{number_in}

-- the size of its unit, and its publications
pub record SizedScript : Type 0 where
  pub size : Size
  pub batches : List (List Event)

abbrev pub sized : ScriptContents → SizedScript
sized script = record { size = script.size; batches = script.batches }

-- the refusal with the same name
abbrev pub refusal_of_script : ScriptKind → Refusal
refusal_of_script BadVersion = refusal.BadVersion
refusal_of_script BadLine = refusal.BadLine
refusal_of_script BadName = refusal.BadName
refusal_of_script OddCfg = refusal.OddCfg
refusal_of_script BadNumber = refusal.BadNumber
refusal_of_script BatchFull = refusal.BatchFull
refusal_of_script Unpublished = refusal.Unpublished
refusal_of_script TooLong = refusal.TooLong
refusal_of_script Memory = refusal.Memory

-- the kind with the same name; that of version 3, which has the others
abbrev pub script_kind : Refusal → ScriptKind
script_kind refusal.BadLine = BadLine
script_kind refusal.BadName = BadName
script_kind refusal.OddCfg = OddCfg
script_kind refusal.BadNumber = BadNumber
script_kind refusal.BatchFull = BatchFull
script_kind refusal.Unpublished = Unpublished
script_kind refusal.TooLong = TooLong
script_kind refusal.Memory = Memory
script_kind _ = BadVersion

-- the fault without its word
abbrev pub line_of : Fault → ScriptFault
line_of fault = record { kind = script_kind fault.refusal; line = number_in fault.place }

-- the line that names version 3, if the first significant one does
abbrev pub headed_line : List Line → Option ScriptFault
headed_line [] = None
headed_line (first ∷ more) =
    if is_headed_by (first ∷ more) then Some (record { kind = BadVersion; line = first.number }) else None

-- more than 1,048,576 bytes, or version 3, which isn't known
abbrev pub unsized_fault : List ℕ → Option ScriptFault
unsized_fault text =
    if nat_lt MAX_SCRIPT (length text) then Some (record { kind = TooLong; line = 0 })
    else headed_line (significant_lines text)

abbrev pub sized_result : Result ScriptContents Fault → Result SizedScript ScriptFault
sized_result (Ok script) = Ok (sized script)
sized_result (Err fault) = Err (line_of fault)

-- what a text means
unfoldable pub sized_meaning : List ℕ → Result SizedScript ScriptFault
sized_meaning text =
    elim (unsized_fault text) [ Some fault ↦ Err fault | None ↦ sized_result (script_meaning text) ]

-- the result is the meaning, or memory ran out
abbrev pub GivesSized : Result SizedScript ScriptFault → Result SizedScript ScriptFault → Type 0
GivesSized (Ok script) meant = meant ≡ Ok script
GivesSized (Err fault) meant = (meant ≡ Err fault) ⊎ (fault ≡ record { kind = Memory; line = 0 })
