-- Traces whose rows ask for numbers of publications, as they do where a script names no moments.
use Rattle.std.specs.Prelude.{◌≡◌, ◌⊎◌, ℕ, List, map, Ok, Err}
use Rattle.pmp_text.specs.declared.refusal.Refusal.{Refusal}
use Rattle.pmp_text.specs.declared.refusal.Refusal.TheVariants as refusal
use Rattle.pmp_text.specs.declared.fault.Fault.{Fault}
use Rattle.pmp_text.specs.declared.trace.TraceRow.{TraceRow}
use Rattle.pmp_text.specs.declared.trace.numbered.Row.{Row}
use Rattle.pmp_text.specs.declared.trace.numbered.TraceFault.{TraceFault}
use Rattle.pmp_text.specs.declared.trace.numbered.TraceKind.{TraceKind}
use Rattle.pmp_text.specs.declared.trace.numbered.TraceKind.TheVariants.{BadHeader, BadRow, BadAfter, Order, BadLength}
use Rattle.pmp_text.specs.declared.trace.numbered.TraceKind.TheVariants.{PastEnd, TooLong, Memory, Input}
use Rattle.pmp_text.specs.Moments.{unnamed_moments}
use Rattle.pmp_text.specs.Outcomes.{no_memory}
use Rattle.pmp_text.specs.Traces.{row_fields, trace_meaning}
use Rattle.pmp_text.specs.FaultPlaces.{number_in}

-- the refusal with the same name
abbrev pub refusal_of_trace : TraceKind → Refusal
refusal_of_trace BadHeader = refusal.BadHeader
refusal_of_trace BadRow = refusal.BadRow
refusal_of_trace BadAfter = refusal.BadAfter
refusal_of_trace Order = refusal.Order
refusal_of_trace BadLength = refusal.BadLength
refusal_of_trace PastEnd = refusal.PastEnd
refusal_of_trace TooLong = refusal.TooLong
refusal_of_trace Memory = refusal.Memory
refusal_of_trace Input = refusal.Input

-- the kind with the same name; a moment without a place is no number
abbrev pub trace_kind : Refusal → TraceKind
trace_kind refusal.BadHeader = BadHeader
trace_kind refusal.BadAfter = BadAfter
trace_kind refusal.Order = Order
trace_kind refusal.BadLength = BadLength
trace_kind refusal.PastEnd = PastEnd
trace_kind refusal.TooLong = TooLong
trace_kind refusal.Memory = Memory
trace_kind refusal.Input = Input
trace_kind _ = BadRow

-- the fault without its field
abbrev pub row_of_fault : Fault → TraceFault
row_of_fault fault = record { kind = trace_kind fault.refusal; row = number_in fault.place }

-- the row without how its start is written
abbrev pub numbered_row : TraceRow → Row
numbered_row row = record { after = row.after; access = row.access }

-- these rows are the trace's, for a script with so many publications
pub record AreRowsOf (publications : ℕ) (text : List ℕ) (rows : List Row) : Type 0 where
  pub all : List TraceRow
  pub means : trace_meaning (unnamed_moments publications) text ≡ Ok (map row_fields all)
  pub same : rows ≡ map numbered_row all

-- the trace has this first fault, or memory ran out
pub record IsFaultOf (publications : ℕ) (text : List ℕ) (fault : TraceFault) : Type 0 where
  pub first : Fault
  pub why : (trace_meaning (unnamed_moments publications) text ≡ Err first) ⊎ (first ≡ no_memory)
  pub same : fault ≡ row_of_fault first
