-- Rows of cells, and their text.
use Rattle.std.specs.Prelude.{ℕ, List, [], ◌∷◌, ◌++◌, Option, Some, None, codes, decimal, map}
use Rattle.std.specs.List.{flat_map}
use Rattle.csv.specs.Writing.{default_writer, field_text}
use Rattle.pmp_text.specs.declared.lines.cell.Cell.{Cell}
use Rattle.pmp_text.specs.declared.lines.cell.Cell.TheVariants as cell
use Rattle.pmp_text.specs.declared.lines.hexadecimal.TheConstants.{ADDRESS_DIGITS}
use Rattle.pmp_text.specs.declared.lines.row_kind.RowKind.{RowKind}
use Rattle.pmp_text.specs.declared.lines.verdict.Verdict.{Verdict}
use Rattle.pmp_text.specs.declared.lines.verdict.Verdict.TheVariants.{Broken, Holds, Unmet}
use Rattle.pmp_text.specs.Hexadecimal.{hex_text, value_text}
use Rattle.pmp_text.specs.Reports.{fields_after}
use Rattle.pmp_text.specs.RightsTexts.{perms_text}

-- a number, a byte address, a verdict, a word that needs no quotes, or any text
pub data CellValue : Type 0 where
  Number : ℕ → CellValue
  Address : ℕ → CellValue
  OfVerdict : Verdict → CellValue
  Word : List ℕ → CellValue
  Text : List ℕ → CellValue

abbrev pub nothing : CellValue
nothing = Word []

abbrev pub number_value : Option ℕ → CellValue
number_value None = nothing
number_value (Some number) = Number number

pub record RowValue : Type 0 where
  pub kind : RowKind
  pub cells : List CellValue

-- a cell whose text, if it has one, has these bytes
abbrev pub cell_value : {T : Type 0} → (bytes : T → List ℕ) → Cell T → CellValue
cell_value bytes cell.Nothing = nothing
cell_value bytes (cell.Number number) = Number number
cell_value bytes (cell.Address address) = Address address
cell_value bytes (cell.Value value) = Word (value_text value)
cell_value bytes (cell.Rights rights) = Word (perms_text rights)
cell_value bytes (cell.Verdict verdict) = OfVerdict verdict
cell_value bytes (cell.Word word) = Word word.now
cell_value bytes (cell.Plain text) = Word (bytes text)
cell_value bytes (cell.Text text) = Text (bytes text)

abbrev pub verdict_text : Verdict → List ℕ
verdict_text Holds = codes "holds"
verdict_text (Broken breach) = codes "broken"
verdict_text (Unmet waived) = codes "unmet"

-- an address has fourteen digits
abbrev pub shown_text : CellValue → List ℕ
shown_text (Number number) = decimal number
shown_text (Address address) = hex_text ADDRESS_DIGITS address
shown_text (OfVerdict verdict) = verdict_text verdict
shown_text (Word word) = word
shown_text (Text text) = text

-- a text has the quotes that it needs
abbrev pub cell_text : CellValue → List ℕ
cell_text (Text text) = field_text default_writer text
cell_text cell = shown_text cell

-- the cells with commas between them, and LF
abbrev pub csv_line : List CellValue → List ℕ
csv_line [] = 10 ∷ []
csv_line (cell ∷ rest) = cell_text cell ++ fields_after (map cell_text rest)

abbrev pub csv_text : List RowValue → List ℕ
csv_text rows = flat_map (λ row. csv_line row.cells) rows

-- some rows were added
abbrev pub AddsSome : {A : Type 0} → (Adds : List RowValue → A → A → Type 0) → (before after : A) → Type 0
AddsSome Adds before after = (rows : List RowValue) × Adds rows before after
