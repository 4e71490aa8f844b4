-- Which row of a trace is at fault, and the order of rows that aren't.
use Rattle.std.specs.Prelude.{◌≡◌, ℕ, zero, suc, ◌+◌, ◌≤◌, List, [], ◌∷◌, length, map, true, Option, None, Ok, Err, ⊤}
use Rattle.std.specs.Prelude.{MatchOption, option_map, option_and_then, slice_get}
use Rattle.pmp_text.specs.declared.trace.row_fields.RowFields.{RowFields}
use Rattle.pmp_text.specs.declared.fault.Fault.{Fault}
use Rattle.pmp_text.specs.Faults.{IsLeastFault}
use Rattle.pmp_text.specs.Moments.{KnownMoments}
use Rattle.pmp_text.specs.Tables.{records_of}
use Rattle.pmp_text.specs.Traces.{after_of, first_row_fault, is_header, row_fault, row_in, row_of_record, trace_meaning}
use Rattle.pmp_text.specs.declared.trace.reader.TheConstants.{MAX_TRACE}
use Rattle.pmp_text.specs.Flaws.{at_row}
use Rattle.pmp_text.specs.declared.fault.Source.TheVariants as source

-- how many publications the row before this one asks for, or `last` before the first row
abbrev pub after_before : KnownMoments → (last : Option ℕ) → List (List (List ℕ)) → (index : ℕ) → Option ℕ
after_before moments last rows zero = last
after_before moments last rows (suc index) = option_and_then (λ row. after_of (row_of_record moments row)) (slice_get rows index)

-- the fault of the row with this index, by itself and the row before
abbrev pub row_fault_at : KnownMoments → List (List (List ℕ)) → (index : ℕ) → Option Fault
row_fault_at moments rows index = option_and_then
    (λ row. option_map (at_row source.Trace (index + 1))
    (row_fault moments.publications (after_before moments None rows index) (row_in moments row)))
    (slice_get rows index)

-- the first fault is that of the first faulty row; if there is none, no row is faulty
abbrev pub FirstRowFaultLaw : Type 0
FirstRowFaultLaw = (moments : KnownMoments) (rows : List (List (List ℕ)))
    → MatchOption (first_row_fault moments None 1 rows)
    ((index : ℕ) → row_fault_at moments rows index ≡ None)
    (λ fault. IsLeastFault (row_fault_at moments rows) fault)

-- a text with a header that isn't too long is refused with the fault of its first faulty row, if it has one
abbrev pub LeastRowFaultLaw : Type 0
LeastRowFaultLaw = (moments : KnownMoments) (text : List ℕ) (header : List (List ℕ)) (rows : List (List (List ℕ)))
    (fault : Fault)
    → length text ≤ MAX_TRACE → records_of text ≡ header ∷ rows → is_header header ≡ true
    → IsLeastFault (row_fault_at moments rows) fault → trace_meaning moments text ≡ Err fault

-- each asks for at least as many publications as the one before, the first for `least`, and for no more than there are
abbrev pub IsInOrder : (publications : ℕ) → (least : ℕ) → List ℕ → Type 0
IsInOrder publications least [] = ⊤
IsInOrder publications least (after ∷ more) =
    (least ≤ after) × (after ≤ publications) × IsInOrder publications after more

-- how many publications each row asks for
abbrev pub afters : List RowFields → List ℕ
afters rows = map (λ row. row.after) rows

-- the rows of a trace without a fault are in order
abbrev pub RowOrderLaw : Type 0
RowOrderLaw = (moments : KnownMoments) (text : List ℕ) (rows : List RowFields) → trace_meaning moments text ≡ Ok rows
    → IsInOrder moments.publications 0 (afters rows)
