-- The lines of a text, and the words of a line.
use Rattle.std.specs.Prelude.{ℕ, List, [], ◌∷◌, length, map, filter, Bool, nat_lt, ◌==◌, ◌||◌, if◌then◌else◌}
use Rattle.std.specs.List.{slice_split}
use Rattle.std.specs.Str.Lines.{strip_carriage_return}

-- what separates lines
abbrev pub is_line_feed : ℕ → Bool
is_line_feed byte = byte == 10

-- what separates words: space and tab
abbrev pub is_blank : ℕ → Bool
is_blank byte = byte == 32 || byte == 9

abbrev pub has_bytes : List ℕ → Bool
has_bytes piece = nat_lt 0 (length piece)

-- the words of a line: its pieces between blanks, without the empty ones
unfoldable pub words : List ℕ → List (List ℕ)
words line = filter has_bytes (slice_split is_blank line)

-- what follows the last line feed is no line if it is empty
abbrev pub without_empty_end : List (List ℕ) → List (List ℕ)
without_empty_end [] = []
without_empty_end (piece ∷ []) = if has_bytes piece then piece ∷ [] else []
without_empty_end (piece ∷ next ∷ more) = piece ∷ without_empty_end (next ∷ more)

-- the lines of a text: its pieces between line feeds, each without one carriage return at its end
unfoldable pub lines : List ℕ → List (List ℕ)
lines text = map strip_carriage_return (without_empty_end (slice_split is_line_feed text))
