-- The columns of a command's rows.
use Rattle.std.specs.Prelude.{ℕ, List, [], ◌∷◌, ◌++◌, codes, Option, Some, None, if◌then◌else◌}
use Rattle.pmp_text.specs.Cells.{CellValue, Number, shown_text}
use Rattle.pmp_text.specs.Columns.{ColumnValue, Text, cell_under, columns}
use Rattle.pmp_text.specs.declared.lines.row_kind.RowKind.{RowKind}
use Rattle.pmp_forms.specs.declared.table.Table.{Table}

-- with the name of a hart before them, and the names of addresses after them, if the table has these
abbrev pub whole : Table → RowKind → List ColumnValue
whole table kind = (if table.has_hart then Text (codes "hart") ∷ [] else [])
    ++ (columns kind ++ (if table.has_names then Text (codes "names") ∷ [] else []))

-- the number in a cell, if it is one
abbrev pub number_in : CellValue → Option ℕ
number_in (Number number) = Some number
number_in _ = None

abbrev pub number_or_none : Option CellValue → Option ℕ
number_or_none None = None
number_or_none (Some cell) = number_in cell

abbrev pub number_under : (name : List ℕ) → List ColumnValue → List CellValue → Option ℕ
number_under name columns cells = number_or_none (cell_under name columns cells)

abbrev pub shown_or_nothing : Option CellValue → List ℕ
shown_or_nothing None = []
shown_or_nothing (Some cell) = shown_text cell

-- the text under the first column with this name, or nothing
abbrev pub text_under : (name : List ℕ) → List ColumnValue → List CellValue → List ℕ
text_under name columns cells = shown_or_nothing (cell_under name columns cells)
