-- Rows as tables of Markdown.
use Rattle.std.specs.Prelude.{ℕ, List, [], ◌∷◌, ◌++◌, map, codes, Bool, ◌||◌, ◌==◌, if◌then◌else◌}
use Rattle.std.specs.List.{flat_map}
use Rattle.pmp_text.specs.Cells.{RowValue, shown_text}
use Rattle.pmp_text.specs.Columns.{column_name, kind_number}
use Rattle.pmp_text.specs.declared.lines.row_kind.RowKind.{RowKind}
use Rattle.pmp_forms.specs.declared.table.Table.{Table}
use Rattle.pmp_forms.specs.Tables.{whole}

-- one of |, \, *, _, `, [, ], ~ and $, which a backslash takes as it is
abbrev pub is_markup : ℕ → Bool
is_markup byte = (byte == 124) || (byte == 92) || (byte == 42) || (byte == 95) || (byte == 96) || (byte == 91)
    || (byte == 93) || (byte == 126) || (byte == 36)

-- a line's end would end the row, so a blank stands for it
abbrev pub is_line_end : ℕ → Bool
is_line_end byte = (byte == 10) || (byte == 13)

abbrev pub cell_byte : ℕ → List ℕ
cell_byte byte =
    if byte == 60 then codes "&lt;"
    else (if byte == 38 then codes "&amp;"
    else (if is_line_end byte then codes " "
    else (if is_markup byte then 92 ∷ byte ∷ [] else byte ∷ [])))

abbrev pub cell : List ℕ → List ℕ
cell text = codes " " ++ (flat_map cell_byte text ++ codes " |")

abbrev pub line : (cells : List (List ℕ)) → List ℕ
line cells = codes "|" ++ (flat_map cell cells ++ codes "\n")

abbrev pub head : Table → RowKind → List ℕ
head table kind = let columns = whole table kind in
    line (map column_name columns) ++ line (map (λ column. codes "---") columns)

abbrev pub row_line : RowValue → List ℕ
row_line row = line (map shown_text row.cells)

-- what is between a row of one kind and the next: if that is of another kind, an empty line and the head of another table
abbrev pub head_between : Table → (before kind : RowKind) → List ℕ
head_between table before kind =
    if kind_number kind == kind_number before then [] else codes "\n" ++ head table kind

-- rows after one of this kind
abbrev pub rows_after : Table → (before : RowKind) → List RowValue → List ℕ
rows_after table before [] = []
rows_after table before (row ∷ rows) =
    (head_between table before row.kind ++ row_line row) ++ rows_after table row.kind rows

abbrev pub markdown_text : Table → List RowValue → List ℕ
markdown_text table [] = head table table.kind
markdown_text table (row ∷ rows) = head table row.kind ++ (row_line row ++ rows_after table row.kind rows)
