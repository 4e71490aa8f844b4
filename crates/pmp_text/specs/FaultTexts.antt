-- How a fault is shown.
use Rattle.std.specs.Prelude.{ℕ, List, [], ◌++◌, codes, decimal, Bool, true, false, nat_lt, if◌then◌else◌}
use Rattle.pmp_text.specs.Refusals.{refusal_text}
use Rattle.pmp_text.specs.declared.fault.Fault.{Fault}
use Rattle.pmp_text.specs.declared.fault.Place.{Place}
use Rattle.pmp_text.specs.declared.fault.Place.TheVariants.{In, PlanEntries, PlanRows}
use Rattle.pmp_text.specs.declared.fault.Source.{Source}
use Rattle.pmp_text.specs.declared.fault.Source.TheVariants.{Script, Old, New, Trace, Policy, Names, Plan, Log}

abbrev pub source_text : Source → List ℕ
source_text Script = codes "script"
source_text Old = codes "old"
source_text New = codes "new"
source_text Trace = codes "trace"
source_text Policy = codes "policy"
source_text Names = codes "names"
source_text Plan = codes "plan"
source_text Log = codes "log"

-- scripts and logs have lines, the others rows
abbrev pub part_text : Source → List ℕ
part_text Script = codes "line"
part_text Old = codes "line"
part_text New = codes "line"
part_text Log = codes "line"
part_text _ = codes "row"

-- a plan, and one of two scripts, is named even if it is at fault as a whole
abbrev pub is_named_whole : Source → Bool
is_named_whole Old = true
is_named_whole New = true
is_named_whole Plan = true
is_named_whole _ = false

-- the line or row at fault
abbrev pub place_text : Place → List ℕ
place_text (In source number part) = if nat_lt 0 number
    then source_text source ++ (codes " " ++ (part_text source ++ (codes " " ++ (decimal number ++ codes ": "))))
    else (if is_named_whole source then source_text source ++ codes ": " else [])
place_text (PlanRows one other) =
    codes "plan rows " ++ (decimal one ++ (codes " and " ++ (decimal other ++ codes ": ")))
place_text (PlanEntries row takes found) = codes "plan row " ++ (decimal row ++ (codes " takes " ++ (decimal takes
    ++ (codes " of " ++ (decimal found ++ codes " entries: ")))))
place_text _ = []

abbrev pub fault_text : Fault → List ℕ
fault_text fault = place_text fault.place ++ (codes "refused " ++ refusal_text fault.refusal)
