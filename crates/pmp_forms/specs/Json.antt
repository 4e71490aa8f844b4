-- Rows as JSON.
use Rattle.std.specs.Prelude.{ℕ, List, [], ◌∷◌, ◌++◌, codes, Option, Some, None, if◌then◌else◌}
use Rattle.std.specs.List.{flat_map}
use Rattle.std.specs.Str.Lossy.{utf8_lossy}
use Rattle.serde_json.specs.Data.{Data, null, number, unsigned, string, object, Members, no_members, member}
use Rattle.serde_json.specs.Written.{compact_text}
use Rattle.pmp_text.specs.Cells.{CellValue, RowValue, shown_text}
use Rattle.pmp_text.specs.Columns.{ColumnValue, column_name, is_number}
use Rattle.pmp_forms.specs.declared.table.Table.{Table}
use Rattle.pmp_forms.specs.Tables.{number_in, whole}

-- a number, if there is one
abbrev pub number_or_null : Option ℕ → Data
number_or_null (Some n) = number (unsigned n)
number_or_null None = null

-- what a cell says in a column
abbrev pub datum : ColumnValue → CellValue → Data
datum column cell =
    if is_number column then number_or_null (number_in cell) else string (utf8_lossy (shown_text cell))

-- the cells under the names of their columns
abbrev pub members : List ColumnValue → List CellValue → Members
members (column ∷ columns) (cell ∷ cells) = member (column_name column) (datum column cell) (members columns cells)
members _ _ = no_members

abbrev pub row_object : Table → RowValue → List ℕ
row_object table row = compact_text (object (members (whole table row.kind) row.cells))

abbrev pub object_after : Table → RowValue → List ℕ
object_after table row = codes ",\n" ++ row_object table row

-- an array of the rows' objects, each on a line of its own
abbrev pub json_text : Table → List RowValue → List ℕ
json_text table [] = codes "[]\n"
json_text table (row ∷ rows) =
    codes "[\n" ++ (row_object table row ++ (flat_map (object_after table) rows ++ codes "\n]\n"))
