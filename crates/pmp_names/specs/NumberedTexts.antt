-- Texts of fields, with numbers in the places of names.
use Rattle.std.specs.Prelude.{ℕ, List, [], ◌∷◌, ◌++◌, Bool, true, false, not, ◌&&◌, ◌||◌, ◌==◌, Option, Some, None, codes}
use Rattle.std.specs.Prelude.{bytes_eq, if◌then◌else◌}
use Rattle.std.specs.Fmt.{digits}
use Rattle.std.specs.List.{flat_map, onto_first}
use Rattle.pmp_text.specs.MetNames.{Named}
use Rattle.pmp_names.specs.NamedAddresses.{end_said, place_said}
use Rattle.pmp_names.specs.declared.numbered_text.Place.{Place}
use Rattle.pmp_names.specs.declared.numbered_text.Place.TheVariants.{Beginning, Plain, Quoted, Closed}

-- outside quotes a field begins after a comma or a line end
abbrev pub outside : (byte : ℕ) → Place
outside byte = if byte == 44 || (byte == 10 || byte == 13) then Beginning else Plain

-- a quote opens a quoted part at the beginning of a field, and closes it; two in a quoted part stand for one
abbrev pub after : Place → (byte : ℕ) → Place
after Quoted byte = if byte == 34 then Closed else Quoted
after Plain byte = outside byte
after Beginning byte = if byte == 34 then Quoted else outside byte
after Closed byte = if byte == 34 then Quoted else outside byte

abbrev pub is_quoted : Place → Bool
is_quoted Quoted = true
is_quoted place = false

-- the parts of a text between the separators outside quotes
abbrev pub parts_from : (separator : ℕ) → Place → (text : List ℕ) → List (List ℕ)
parts_from separator place [] = [] ∷ []
parts_from separator place (byte ∷ more) =
    if byte == separator && not (is_quoted place) then [] ∷ parts_from separator Beginning more
    else onto_first byte (parts_from separator (after place byte) more)

abbrev pub parts_of : (separator : ℕ) (text : List ℕ) → List (List ℕ)
parts_of separator text = parts_from separator Beginning text

-- between commas
abbrev pub fields_of : (line : List ℕ) → List (List ℕ)
fields_of line = parts_of 44 line

-- the address that a name says in a column with this head
abbrev pub said_below : (head : List ℕ) → List Named → (field : List ℕ) → Option ℕ
said_below head names field =
    if bytes_eq head (codes "last") then end_said names field
    else if bytes_eq head (codes "start") || bytes_eq head (codes "first") then place_said names field
    else None

-- a field with a number where a name leads somewhere
abbrev pub number_for : Option ℕ → (field : List ℕ) → List ℕ
number_for (Some address) field = codes "0x" ++ digits 16 false address
number_for None field = field

abbrev pub numbered_field : List Named → (head field : List ℕ) → List ℕ
numbered_field names head field = number_for (said_below head names field) field

-- the fields of a row below their heads
abbrev pub numbered_fields : List Named → (heads fields : List (List ℕ)) → List (List ℕ)
numbered_fields names heads [] = []
numbered_fields names [] (field ∷ fields) = field ∷ fields
numbered_fields names (head ∷ heads) (field ∷ fields) =
    numbered_field names head field ∷ numbered_fields names heads fields

-- fields as a row again
abbrev pub row_of : List (List ℕ) → List ℕ
row_of [] = []
row_of (field ∷ fields) = field ++ flat_map (λ field. codes "," ++ field) fields

abbrev pub numbered_row : List Named → (header row : List ℕ) → List ℕ
numbered_row names header row = row_of (numbered_fields names (fields_of header) (fields_of row))

-- the first line heads the columns of the others
abbrev pub numbered_lines : List Named → List (List ℕ) → List ℕ
numbered_lines names [] = []
numbered_lines names (header ∷ rows) = header ++ flat_map (λ row. codes "\n" ++ numbered_row names header row) rows

-- a text with numbers in the places of the names that its fields of addresses say, line by line
abbrev pub numbered_text : List Named → (text : List ℕ) → List ℕ
numbered_text names text = numbered_lines names (parts_of 10 text)
