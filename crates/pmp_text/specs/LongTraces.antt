-- What a trace of any length means, what a piece of it means at its place, and how both are reported.
use Rattle.std.specs.Prelude.{◌≡◌, ℕ, ◌+◌, ◌^◌, ◌≤◌, List, [], ◌∷◌, ◌++◌, length, map, filter_map, Bool}
use Rattle.std.specs.Prelude.{true, false, ⊤}
use Rattle.std.specs.Prelude.{Option, Some, None, Result, Ok, if◌then◌else◌}
use Rattle.std.specs.List.{zip, enumerate_from, flat_map, list_any, position_from}
use Rattle.std.specs.Option.{option_or}
use Rattle.pmp_core.specs.declared.decision.Decision.{Decision}
use Rattle.pmp_text.specs.declared.trace.TraceRow.{TraceRow}
use Rattle.pmp_text.specs.declared.fault.Fault.{Fault}
use Rattle.pmp_text.specs.declared.refusal.Refusal.TheVariants.{BadHeader, TooLong}
use Rattle.pmp_text.specs.declared.trace.rows.Position.{Position}
use Rattle.pmp_text.specs.declared.trace.row_fields.RowFields.{RowFields}
use Rattle.pmp_text.specs.Contents.{ScriptContents}
use Rattle.pmp_text.specs.Moments.{KnownMoments, moments_in}
use Rattle.pmp_text.specs.Reports.{AreDecided, report_row}
use Rattle.pmp_text.specs.Tables.{behind_header, fault_or_rows, is_line_end}
use Rattle.pmp_text.specs.Traces.{after_of, first_row_fault, is_header, row_fields, row_of_record}
use Rattle.pmp_text.specs.Flaws.{at_row, as_whole}
use Rattle.pmp_text.specs.declared.fault.Source.TheVariants as source

abbrev pub Records : Type 0
Records = List (List (List ℕ))

-- ---- the whole

-- what the rows of a trace mean, numbered from `first`
abbrev pub long_rows_meaning : KnownMoments → (first : ℕ) → Records → Result (List RowFields) Fault
long_rows_meaning moments first rows =
    fault_or_rows (first_row_fault moments None first rows) (filter_map (row_of_record moments) rows)

-- what the records of a trace of any length mean: numbered from 1, as those of a text within the limit
abbrev pub long_meaning : KnownMoments → (first : ℕ) → Records → Result (List RowFields) Fault
long_meaning moments first = behind_header source.Trace is_header (long_rows_meaning moments first)

-- a report row for each decision, numbered from `first`
unfoldable pub report_text_from : (first : ℕ) → List TraceRow → List Decision → List ℕ
report_text_from first rows decisions = flat_map (λ (number, (row, decision)). report_row number row.access decision)
    (enumerate_from first (zip rows decisions))

-- the records are a header and these rows, and the text reports their decisions
pub record IsReportOf (script : ScriptContents) (first : ℕ) (records : Records) (text : List ℕ) : Type 0 where
  pub rows : List TraceRow
  pub decisions : List Decision
  pub records_mean : long_meaning (moments_in script) first records ≡ Ok (map row_fields rows)
  pub decided : AreDecided script rows decisions
  pub report : text ≡ report_text_from first rows decisions

-- ---- lines

-- at least `most` bytes in a row have no line end
abbrev pub HasLongLine : (text : List ℕ) → (most : ℕ) → Type 0
HasLongLine text most = (front line behind : List ℕ) × (text ≡ front ++ (line ++ behind))
    × (list_any is_line_end line ≡ false) × (most ≤ length line)

-- ---- a piece

-- the records of rows: all but the header
abbrev pub row_records : (begun : Bool) → Records → Records
row_records true records = records
row_records false [] = []
row_records false (header ∷ rows) = rows

-- whether the header was read, in these records or before
abbrev pub has_begun : (begun : Bool) → Records → Bool
has_begun true records = true
has_begun false [] = false
has_begun false (header ∷ rows) = true

-- the trace's first record, if it is among these, names the fields
abbrev pub IsHeaded : (begun : Bool) → Records → Type 0
IsHeaded true records = ⊤
IsHeaded false [] = ⊤
IsHeaded false (header ∷ rows) = is_header header ≡ true

-- how many publications the last of these rows asks for, or `last` if there is none
abbrev pub last_after : KnownMoments → (last : Option ℕ) → Records → Option ℕ
last_after moments last [] = last
last_after moments last (row ∷ more) = last_after moments (after_of (row_of_record moments row)) more

-- the record is a row, and its start is bare
abbrev pub is_bare_record : KnownMoments → List (List ℕ) → Bool
is_bare_record moments fields = elim (row_of_record moments fields) [ Some row ↦ row.is_bare | None ↦ false ]

-- the place of the records that follow rows
abbrev pub rows_behind : KnownMoments → Position → Records → Position
rows_behind moments place rows = record {
  begun = true;
  last = last_after moments place.last rows;
  next = place.next + length rows;
  bare = option_or place.bare (position_from (is_bare_record moments) place.next rows);
}

-- the place of the records that follow these
abbrev pub place_behind : KnownMoments → Position → Records → Position
place_behind moments place records = record {
  begun = has_begun place.begun records;
  last = last_after moments place.last (row_records place.begun records);
  next = place.next + length (row_records place.begun records);
  bare = option_or place.bare (position_from (is_bare_record moments) place.next (row_records place.begun records));
}

-- the first fault of records at this place; only the end of a trace shows that there is no header
abbrev pub first_fault_at : KnownMoments → (begun : Bool) → (last : Option ℕ) → (next : ℕ) → Records
    → Option Fault
first_fault_at moments true last next rows = first_row_fault moments last next rows
first_fault_at moments false last next [] = None
first_fault_at moments false last next (header ∷ rows) =
    if is_header header then first_row_fault moments last next rows else Some (at_row source.Trace 0 (as_whole BadHeader))

abbrev pub piece_fault : KnownMoments → Position → Records → Option Fault
piece_fault moments place = first_fault_at moments place.begun place.last place.next

-- rows without a fault come first, and the last one would have the number 2^64 - 1 or more
pub record HasTooManyRows (moments : KnownMoments) (place : Position) (records : Records) : Type 0 where
  pub front : Records
  pub behind : Records
  pub are : records ≡ front ++ behind
  pub fine : piece_fault moments place front ≡ None
  pub many : 2 ^ 64 ≤ (place_behind moments place front).next

-- the place where a trace begins whose first row has this number
abbrev pub beginning : (first : ℕ) → Position
beginning first = record { begun = false; last = None; next = first; bare = None }

-- a row or a line is too long, which is no row's fault
abbrev pub too_long_for_rows : Fault
too_long_for_rows = at_row source.Trace 0 (as_whole TooLong)
