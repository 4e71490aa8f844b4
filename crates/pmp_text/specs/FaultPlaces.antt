-- Where a fault is.
use Rattle.std.specs.Prelude.{ℕ}
use Rattle.pmp_text.specs.declared.fault.Fault.{Fault}
use Rattle.pmp_text.specs.declared.fault.Place.{Place}
use Rattle.pmp_text.specs.declared.fault.Place.TheVariants.{In, Nowhere, PlanEntries, PlanRows}
use Rattle.pmp_text.specs.declared.fault.Source.{Source}
use Rattle.pmp_text.specs.declared.fault.Source.TheVariants.{Script}
use Rattle.pmp_text.specs.declared.refusal.Refusal.{Refusal}

-- in no known place
abbrev pub somewhere : Refusal → Fault
somewhere refusal = record { refusal = refusal; place = Nowhere }

-- the line or row, of two rows the first, or 0
abbrev pub number_in : Place → ℕ
number_in (In source number part) = number
number_in (PlanRows one other) = one
number_in (PlanEntries row takes found) = row
number_in _ = 0

-- the script is this one of two
abbrev pub named_side : (side : Source) → Source → Source
named_side side Script = side
named_side side source = source

abbrev pub place_on : (side : Source) → Place → Place
place_on side (In source number part) = In (named_side side source) number part
place_on side place = place

-- the fault of a script as that of one of two
abbrev pub fault_on : (side : Source) → Fault → Fault
fault_on side fault = record { refusal = fault.refusal; place = place_on side fault.place }
