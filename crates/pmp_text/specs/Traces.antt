-- What a trace means: its rows, or its fault.
use Rattle.std.specs.Prelude.{ℕ, ◌+◌, List, [], ◌∷◌, filter_map, Bool, false, ◌&&◌, Option, Some, None, Result}
use Rattle.std.specs.Prelude.{option_map, nat_lt, codes, bytes_eq, if◌then◌else◌, Ok, Err}
use Rattle.std.specs.Result.{result_ok}
use Rattle.std.specs.List.{position_from}
use Rattle.std.specs.Option.{option_or}
use Rattle.pmp_core.specs.declared.access.AccessFault.{AccessFault}
use Rattle.pmp_core.specs.declared.access.AccessFault.TheVariants as access
use Rattle.pmp_core.specs.Access.{access_fault}
use Rattle.pmp_text.specs.declared.trace.row_fields.RowFields.{RowFields}
use Rattle.pmp_text.specs.declared.trace.TraceRow.{TraceRow}
use Rattle.pmp_text.specs.declared.flaw.Flaw.{Flaw}
use Rattle.pmp_text.specs.declared.refusal.Refusal.TheVariants.{BadRow, BadAfter, Order, BadLength, PastEnd}
use Rattle.pmp_text.specs.declared.fault.Fault.{Fault}
use Rattle.pmp_text.specs.AccessWords.{mode_named, kind_named}
use Rattle.pmp_text.specs.Moments.{KnownMoments, after_said}
use Rattle.pmp_text.specs.Numbers.{is_bare, word_number}
use Rattle.pmp_text.specs.Tables.{behind_header, fault_or_rows, is_broken, within_limit}
use Rattle.pmp_text.specs.Flaws.{at_row, in_part, of_part, part, as_whole}
use Rattle.pmp_text.specs.declared.fault.Source.TheVariants as source

-- a record's five fields
pub record FiveFields : Type 0 where
  pub after : List ℕ
  pub mode : List ℕ
  pub kind : List ℕ
  pub start : List ℕ
  pub length : List ℕ

unfoldable pub five_fields : List (List ℕ) → Option FiveFields
five_fields (after ∷ mode ∷ kind ∷ start ∷ length ∷ []) =
    Some (record { after = after; mode = mode; kind = kind; start = start; length = length })
five_fields _ = None

-- the first record names the fields
abbrev pub names_fields : FiveFields → Bool
names_fields words = bytes_eq words.after (codes "after")
    && (bytes_eq words.mode (codes "mode") && (bytes_eq words.kind (codes "kind")
    && (bytes_eq words.start (codes "start") && bytes_eq words.length (codes "length"))))

abbrev pub is_header : List (List ℕ) → Bool
is_header fields = elim (five_fields fields) [ Some words ↦ names_fields words | None ↦ false ]

-- ---- one row

abbrev pub row_fields : TraceRow → RowFields
row_fields row = record {
  after = row.after;
  mode = row.access.mode;
  kind = row.access.kind;
  start = row.access.start;
  length = row.access.length;
  is_bare = row.is_bare;
}

-- the number of the first of these rows whose start is bare; the first row is numbered `first`
abbrev pub first_bare : (first : ℕ) → List TraceRow → Option ℕ
first_bare = position_from (λ row. row.is_bare)

-- what five words mean: a moment, a mode, a kind and two numbers
abbrev pub row_of_fields : KnownMoments → FiveFields → Result RowFields Flaw
row_of_fields moments words =
    in_part 0 (after_said moments words.after) (λ after. of_part 1 (mode_named words.mode) (λ mode.
    of_part 2 (kind_named words.kind) (λ kind. of_part 3 (word_number words.start) (λ start.
    of_part 4 (word_number words.length) (λ length.
    Ok (record {
      after = after;
      mode = mode;
      kind = kind;
      start = start;
      length = length;
      is_bare = is_bare words.start;
    }))))))

-- a record read as a row, or which part of it is wrong: the whole if it spans several lines
abbrev pub row_in : KnownMoments → List (List ℕ) → Result RowFields Flaw
row_in moments fields =
    if is_broken fields then Err (as_whole BadRow)
    else elim (five_fields fields) [ Some words ↦ row_of_fields moments words | None ↦ Err (as_whole BadRow) ]

abbrev pub row_of_record : KnownMoments → List (List ℕ) → Option RowFields
row_of_record moments fields = result_ok (row_in moments fields)

-- how many publications a row asks for
abbrev pub after_of : Option RowFields → Option ℕ
after_of row = option_map (λ fields. fields.after) row

-- fewer publications than the row before
abbrev pub falls_behind : (last : Option ℕ) → (after : ℕ) → Bool
falls_behind None after = false
falls_behind (Some last) after = nat_lt after last

-- the flaw of an access: its length, or its first byte
abbrev pub access_flaw : AccessFault → Flaw
access_flaw access.BadLength = part 4 BadLength
access_flaw access.PastEnd = part 3 PastEnd

-- the fault of a row's values: more publications than there are, then fewer than the row before, then the access
abbrev pub fields_fault : (publications : ℕ) → (last : Option ℕ) → RowFields → Option Flaw
fields_fault publications last row =
    if nat_lt publications row.after then Some (part 0 BadAfter)
    else (if falls_behind last row.after then Some (part 0 Order)
    else option_map access_flaw (access_fault row.start row.length))

-- the fault of a row; that it can't be read comes first
abbrev pub row_fault : (publications : ℕ) → (last : Option ℕ) → Result RowFields Flaw → Option Flaw
row_fault publications last (Err flaw) = Some flaw
row_fault publications last (Ok row) = fields_fault publications last row

-- ---- all rows

-- the fault of the first row that has one; the first row has this number, and the row before asks for `last`
abbrev pub first_row_fault : KnownMoments → (last : Option ℕ) → (number : ℕ) → List (List (List ℕ))
    → Option Fault
first_row_fault moments last number [] = None
first_row_fault moments last number (row ∷ more) =
    option_or (option_map (at_row source.Trace number) (row_fault moments.publications last (row_in moments row)))
    (first_row_fault moments (after_of (row_of_record moments row)) (number + 1) more)

-- the rows are numbered from 1, and no row comes before the first one
abbrev pub rows_meaning : KnownMoments → List (List (List ℕ)) → Result (List RowFields) Fault
rows_meaning moments rows =
    fault_or_rows (first_row_fault moments None 1 rows) (filter_map (row_of_record moments) rows)

-- the rows follow the header
abbrev pub records_meaning : KnownMoments → List (List (List ℕ)) → Result (List RowFields) Fault
records_meaning moments = behind_header source.Trace is_header (rows_meaning moments)

-- what a text means for a script with these moments
unfoldable pub trace_meaning : KnownMoments → List ℕ → Result (List RowFields) Fault
trace_meaning moments text = within_limit source.Trace (records_meaning moments) text
