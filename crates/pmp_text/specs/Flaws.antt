-- Where a line or a row is at fault.
use Rattle.std.specs.Prelude.{ℕ, Option, Some, None, Result, Ok, Err}
use Rattle.pmp_text.specs.declared.flaw.Flaw.{Flaw}
use Rattle.pmp_text.specs.declared.refusal.Refusal.{Refusal}
use Rattle.pmp_text.specs.declared.refusal.Refusal.TheVariants.{BadRow}
use Rattle.pmp_text.specs.declared.fault.Fault.{Fault}
use Rattle.pmp_text.specs.declared.fault.Place.TheVariants.{In}
use Rattle.pmp_text.specs.declared.fault.Source.{Source}
use Rattle.pmp_text.specs.declared.fault.Source.TheVariants as source

-- the word or field with this index, from 0, is at fault
abbrev pub part : (index : ℕ) → Refusal → Flaw
part index kind = record { kind = kind; part = Some index }

-- the whole is at fault, not one part
abbrev pub as_whole : Refusal → Flaw
as_whole kind = record { kind = kind; part = None }

-- the fault of the row, or of the line, with this number in an input; 0 is the input as a whole
abbrev pub at_row : Source → (number : ℕ) → Flaw → Fault
at_row source number flaw = record { refusal = flaw.kind; place = In source number flaw.part }

-- the fault of a line of a script
abbrev pub at_line : (number : ℕ) → Flaw → Fault
at_line number flaw = at_row source.Script number flaw

-- the result for the field with this index, which is at fault if it can't be read
abbrev pub of_part : {X Y : Type 0} → (index : ℕ) → (says : Option X) → (X → Result Y Flaw) → Result Y Flaw
of_part index None next = Err (part index BadRow)
of_part index (Some x) next = next x

-- the same if reading the field gives its own refusal
abbrev pub in_part : {X Y : Type 0} → (index : ℕ) → Result X Refusal → (X → Result Y Flaw) → Result Y Flaw
in_part index (Err kind) next = Err (part index kind)
in_part index (Ok x) next = next x

-- one step after another: the first flaw is the flaw
abbrev pub and_then : {X Y : Type 0} → Result X Flaw → (X → Result Y Flaw) → Result Y Flaw
and_then (Ok x) next = next x
and_then (Err flaw) next = Err flaw
