-- Which line of a script is at fault.
use Rattle.std.specs.Prelude.{◌≡◌, ℕ, ◌<◌, ◌≤◌, List, [], length, reverse, take, Option, Some, None, Err, MatchOption}
use Rattle.std.specs.Prelude.{option_map, option_and_then, slice_get}
use Rattle.pmp_text.specs.declared.fault.Fault.{Fault}
use Rattle.pmp_text.specs.ScriptLines.{Line}
use Rattle.pmp_text.specs.Longhand.{meant_lines}
use Rattle.pmp_text.specs.ScriptFaults.{line_fault, first_fault}
use Rattle.pmp_text.specs.Scripts.{most_bytes, script_meaning}
use Rattle.pmp_text.specs.Flaws.{at_line}

-- the fault of the line with this index, given the lines before it
abbrev pub fault_at : List Line → (index : ℕ) → Option Fault
fault_at lines index = option_and_then {T = Line} {U = Fault}
    (λ line. option_map (at_line line.number) (line_fault (reverse (take index lines)) line)) (slice_get lines index)

-- the line, or row, with this index has the fault, and none before it has any
pub record IsLeastFault {F : Type 0} (faults : ℕ → Option F) (fault : F) : Type 0 where
  pub index : ℕ
  pub here : faults index ≡ Some fault
  pub none_before : (before : ℕ) → before < index → faults before ≡ None

-- the first fault is that of the first faulty line; if there is none, no line is faulty
abbrev pub FirstFaultLaw : Type 0
FirstFaultLaw = (lines : List Line)
    → MatchOption (first_fault [] lines) ((index : ℕ) → fault_at lines index ≡ None)
    (λ fault. IsLeastFault (fault_at lines) fault)

-- a text that isn't too long is refused with the fault of its first faulty line, in longhand, if it has one
abbrev pub LeastFaultLaw : Type 0
LeastFaultLaw = (text : List ℕ) → (fault : Fault) → length text ≤ most_bytes text
    → IsLeastFault (fault_at (meant_lines text)) fault → script_meaning text ≡ Err fault
