-- Names of ranges of addresses, as a file gives them.
use Rattle.std.specs.Prelude.{ℕ, ◌+◌, ◌-◌, ◌^◌, List, [], ◌∷◌, ◌++◌, length, take, drop, Bool, false, not, ◌&&◌, ◌||◌}
use Rattle.std.specs.Prelude.{◌==◌, nat_le, min, Option, Some, None, Result, Ok, Err, codes, bytes_eq, position, if◌then◌else◌}
use Rattle.std.specs.Char.{is_ascii_digit}
use Rattle.std.specs.List.{list_all}
use Rattle.pmp_text.specs.Lines.{lines}
use Rattle.pmp_text.specs.Numbers.{word_number}
use Rattle.pmp_text.specs.MetNames.{Named}
use Rattle.pmp_text.specs.declared.refusal.Refusal.TheVariants.{BadHeader, BadRow}
use Rattle.pmp_names.specs.declared.address_name.TheConstants.{NAME_BYTES}
use Rattle.pmp_text.specs.declared.fault.Fault.{Fault}
use Rattle.pmp_text.specs.declared.fault.Source.TheVariants as source
use Rattle.pmp_text.specs.declared.flaw.Flaw.{Flaw}
use Rattle.pmp_text.specs.Flaws.{as_whole, at_row, part}

-- ---- a file of names: the line `first,last,name`, then a line of these three fields for each name

-- a printable byte other than `"`, `+` and `,`
abbrev pub is_name_byte : (byte : ℕ) → Bool
is_name_byte byte = (nat_le 33 byte && nat_le byte 126) && not (byte == 34 || (byte == 43 || byte == 44))

-- a name doesn't begin with a digit
abbrev pub begins_as_name : List ℕ → Bool
begins_as_name [] = false
begins_as_name (byte ∷ more) = not (is_ascii_digit byte)

abbrev pub is_name : List ℕ → Bool
is_name name = begins_as_name name && (list_all is_name_byte name && nat_le (length name) NAME_BYTES)

abbrev pub is_separator : (separator byte : ℕ) → Bool
is_separator separator byte = byte == separator

abbrev pub parts_at : Option ℕ → (line : List ℕ) → Option (List ℕ × List ℕ)
parts_at None line = None
parts_at (Some end) line = Some (take end line, drop (end + 1) line)

-- the parts before and after the first separator
abbrev pub split_once : (separator : ℕ) → (line : List ℕ) → Option (List ℕ × List ℕ)
split_once separator line = parts_at (position (is_separator separator) line) line

abbrev pub split_comma : (line : List ℕ) → Option (List ℕ × List ℕ)
split_comma line = split_once 44 line

-- which of the three fields of a line is at fault, or the whole line
abbrev pub name_of_fields : (first last : Option ℕ) (name : List ℕ) → Result Named Flaw
name_of_fields None last name = Err (part 0 BadRow)
name_of_fields (Some first) None name = Err (part 1 BadRow)
name_of_fields (Some first) (Some last) name =
    if nat_le first last then (if is_name name then Ok (record { first = first; last = last; name = name }) else Err (part 2 BadRow))
    else Err (part 1 BadRow)

abbrev pub name_of_parts : Option (List ℕ × List ℕ) → (first : List ℕ) → Result Named Flaw
name_of_parts None first = Err (as_whole BadRow)
name_of_parts (Some (last, name)) first = name_of_fields (word_number first) (word_number last) name

abbrev pub name_of_rest : Option (List ℕ × List ℕ) → Result Named Flaw
name_of_rest None = Err (as_whole BadRow)
name_of_rest (Some (first, rest)) = name_of_parts (split_comma rest) first

-- the name that a line gives
abbrev pub name_said : List ℕ → Result Named Flaw
name_said line = name_of_rest (split_comma line)

-- ---- all names of a text

-- the next row's number, up to 2^64 - 1
abbrev pub next_row : ℕ → ℕ
next_row row = min (row + 1) (2 ^ 64 - 1)

abbrev pub with_name : Result Named Flaw → (row : ℕ) → Result (List Named) Fault → Result (List Named) Fault
with_name (Err flaw) row names = Err (at_row source.Names row flaw)
with_name (Ok one) row (Ok names) = Ok (one ∷ names)
with_name (Ok one) row (Err fault) = Err fault

-- the names of lines, numbered from `row`
abbrev pub names_from : (row : ℕ) → List (List ℕ) → Result (List Named) Fault
names_from row [] = Ok []
names_from row (line ∷ more) = with_name (name_said line) row (names_from (next_row row) more)

abbrev pub no_header : Fault
no_header = at_row source.Names 0 (as_whole BadHeader)

abbrev pub names_of_lines : List (List ℕ) → Result (List Named) Fault
names_of_lines [] = Err no_header
names_of_lines (header ∷ rows) = if bytes_eq header (codes "first,last,name") then names_from 1 rows else Err no_header

-- the names of a text, or its first fault
abbrev pub names_said : (text : List ℕ) → Result (List Named) Fault
names_said text = names_of_lines (lines text)
