-- The kinds of rows: their columns.
use Rattle.std.specs.Prelude.{ℕ, List, [], ◌∷◌, Bool, true, false, bytes_eq, codes, Option, Some, None}
use Rattle.std.specs.Prelude.{if◌then◌else◌, option_and_then}
use Rattle.pmp_text.specs.declared.lines.row_kind.Column.{Column}
use Rattle.pmp_text.specs.declared.lines.row_kind.Column.TheVariants as column
use Rattle.pmp_text.specs.declared.lines.row_kind.RowKind.{RowKind}
use Rattle.pmp_text.specs.declared.lines.row_kind.RowKind.TheVariants as kind
use Rattle.pmp_text.specs.Cells.{CellValue, Address, RowValue}

-- a column of decimal numbers, or of texts, with its name
pub data ColumnValue : Type 0 where
  Number : List ℕ → ColumnValue
  Text : List ℕ → ColumnValue

abbrev pub column_value : Column → ColumnValue
column_value (column.Number name) = Number name.now
column_value (column.Text name) = Text name.now

abbrev pub column_name : ColumnValue → List ℕ
column_name (Number name) = name
column_name (Text name) = name

abbrev pub is_number : ColumnValue → Bool
is_number (Number name) = true
is_number (Text name) = false

-- the runs of `map`
abbrev pub run_columns : List ColumnValue
run_columns =
    Text (codes "first") ∷ Text (codes "last") ∷ Number (codes "owner") ∷ Text (codes "mrights")
    ∷ Text (codes "surights") ∷ []

-- the entries of `entries`
abbrev pub entry_columns : List ColumnValue
entry_columns =
    Number (codes "entry") ∷ Text (codes "matching") ∷ Text (codes "first") ∷ Text (codes "last")
    ∷ Text (codes "mrights") ∷ Text (codes "surights") ∷ Text (codes "lock") ∷ Text (codes "address")
    ∷ Number (codes "since") ∷ Number (codes "holds") ∷ []

-- the events of `writes`
abbrev pub effect_columns : List ColumnValue
effect_columns =
    Number (codes "n") ∷ Number (codes "publication") ∷ Number (codes "line") ∷ Text (codes "register")
    ∷ Text (codes "written") ∷ Text (codes "before") ∷ Text (codes "after") ∷ Text (codes "effect")
    ∷ Text (codes "reasons") ∷ Text (codes "entries") ∷ []

-- the rows of `policy`
abbrev pub verdict_columns : List ColumnValue
verdict_columns =
    Number (codes "n") ∷ Text (codes "verdict") ∷ Number (codes "done") ∷ Text (codes "first") ∷ Text (codes "last")
    ∷ Number (codes "owner") ∷ []

-- the rows of `policy` with names and comments
abbrev pub labeled_verdict_columns : List ColumnValue
labeled_verdict_columns =
    Number (codes "n") ∷ Text (codes "verdict") ∷ Number (codes "done") ∷ Text (codes "first") ∷ Text (codes "last")
    ∷ Number (codes "owner") ∷ Text (codes "name") ∷ Text (codes "comment") ∷ []

-- the findings of `lint`
abbrev pub finding_columns : List ColumnValue
finding_columns =
    Number (codes "number") ∷ Text (codes "name") ∷ Number (codes "line") ∷ Number (codes "entry")
    ∷ Text (codes "first") ∷ Text (codes "last") ∷ Text (codes "modes") ∷ []

-- the ranges of `diff` whose rights differ
abbrev pub rights_columns : List ColumnValue
rights_columns =
    Text (codes "first") ∷ Text (codes "last") ∷ Text (codes "mold") ∷ Text (codes "suold") ∷ Text (codes "mnew")
    ∷ Text (codes "sunew") ∷ Text (codes "change") ∷ []

-- the ranges of `diff` whose locks differ
abbrev pub lock_columns : List ColumnValue
lock_columns =
    Text (codes "first") ∷ Text (codes "last") ∷ Text (codes "lockold") ∷ Text (codes "locknew") ∷ []

-- the row of `why`
abbrev pub reason_columns : List ColumnValue
reason_columns =
    Number (codes "since") ∷ Text (codes "answer") ∷ Number (codes "fault") ∷ Text (codes "cause")
    ∷ Number (codes "entry") ∷ Text (codes "matching") ∷ Text (codes "first") ∷ Text (codes "last")
    ∷ Text (codes "bits") ∷ Text (codes "table") ∷ Text (codes "lock") ∷ Text (codes "held")
    ∷ Number (codes "configured") ∷ Number (codes "addressed") ∷ Number (codes "lowend") ∷ []

-- the answers behind the row of `why`
abbrev pub answer_columns : List ColumnValue
answer_columns =
    Number (codes "n") ∷ Text (codes "answer") ∷ Number (codes "fault") ∷ Text (codes "cause")
    ∷ Number (codes "entry") ∷ []

abbrev pub columns : RowKind → List ColumnValue
columns kind.Run = run_columns
columns kind.Entry = entry_columns
columns kind.Effect = effect_columns
columns kind.Verdict = verdict_columns
columns kind.LabeledVerdict = labeled_verdict_columns
columns kind.Finding = finding_columns
columns kind.Rights = rights_columns
columns kind.Locks = lock_columns
columns kind.Reason = reason_columns
columns kind.Answer = answer_columns

-- one for each kind
abbrev pub kind_number : RowKind → ℕ
kind_number kind.Run = 0
kind_number kind.Entry = 1
kind_number kind.Effect = 2
kind_number kind.Verdict = 3
kind_number kind.LabeledVerdict = 4
kind_number kind.Finding = 5
kind_number kind.Rights = 6
kind_number kind.Locks = 7
kind_number kind.Reason = 8
kind_number kind.Answer = 9

-- the cell under the first column with this name
abbrev pub cell_under : (name : List ℕ) → List ColumnValue → List CellValue → Option CellValue
cell_under name (column ∷ columns) (cell ∷ cells) =
    if bytes_eq (column_name column) name then Some cell else cell_under name columns cells
cell_under name _ _ = None

abbrev pub address_of : CellValue → Option ℕ
address_of (Address address) = Some address
address_of _ = None

-- the byte address of one end of a row's range, if it has one
abbrev pub end_under : (name : List ℕ) → RowValue → Option ℕ
end_under name row = option_and_then address_of (cell_under name (columns row.kind) row.cells)
