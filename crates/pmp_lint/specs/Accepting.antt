-- Which names are accepted: of findings, or of reasons why writes aren't stored.
use Rattle.std.specs.Prelude.{ℕ, ◌+◌, ◌==◌, ◌&&◌, Bool, true, false, List, Option, Some, None, drop, option_map, position, take}
use Rattle.std.specs.List.{list_all, list_any, slice_split}
use Rattle.std.specs.Option.{option_map_or}
use Rattle.std.specs.Str.{bytes_eq}
use Rattle.pmp_text.specs.Numbers.{word_number}

abbrev pub is_colon : (byte : ℕ) → Bool
is_colon byte = byte == 58

abbrev pub is_comma : (byte : ℕ) → Bool
is_comma byte = byte == 44

-- a name, and the line that is given after a colon
abbrev pub name_at : (word : List ℕ) → Option (List ℕ × Option ℕ)
name_at word = elim (position is_colon word) [
  | None ↦ Some (word, None)
  | Some end ↦ option_map (λ line. (take end word, Some line)) (word_number (drop (end + 1) word))
]

abbrev pub is_line : (accepted : Option ℕ) → (line : ℕ) → Bool
is_line None line = true
is_line (Some accepted) line = accepted == line

-- a word says this name, at every line or at this one
abbrev pub is_meant : (name : List ℕ) → (line : ℕ) → (word : List ℕ) → Bool
is_meant name line word =
    option_map_or (λ (said, only). bytes_eq said name && is_line only line) (name_at word) false

-- the words between commas
abbrev pub parts_of : (words : List ℕ) → List (List ℕ)
parts_of words = slice_split is_comma words

-- one of the words says this name, at every line or at this one
abbrev pub is_accepted : (words name : List ℕ) → (line : ℕ) → Bool
is_accepted words name line = list_any (is_meant name line) (parts_of words)

-- each of the words says such a name
abbrev pub are_named : (is_name : List ℕ → Bool) → (words : List ℕ) → Bool
are_named is_name words =
    list_all (λ word. option_map_or (λ (said, only). is_name said) (name_at word) false) (parts_of words)
