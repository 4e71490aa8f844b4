-- Addresses that words say, as numbers or by names.
use Rattle.std.specs.Prelude.{ℕ, ◌+◌, ◌^◌, List, [], ◌∷◌, take, drop, Bool, ◌==◌, nat_lt, Option, Some, None, position}
use Rattle.std.specs.Prelude.{bytes_eq, if◌then◌else◌, is_some, option_map}
use Rattle.pmp_text.specs.Numbers.{word_number}
use Rattle.pmp_text.specs.MetNames.{Named}

abbrev pub is_plus : (byte : ℕ) → Bool
is_plus byte = byte == 43

-- if the name stands several times, the first of them counts
abbrev pub find_name : List Named → (name : List ℕ) → Option Named
find_name [] name = None
find_name (one ∷ more) name = if bytes_eq one.name name then Some one else find_name more name

-- the first byte that has a name, and the last one
abbrev pub first_of : List Named → (name : List ℕ) → Option ℕ
first_of names name = option_map (λ one. one.first) (find_name names name)

abbrev pub last_of : List Named → (name : List ℕ) → Option ℕ
last_of names name = option_map (λ one. one.last) (find_name names name)

-- so many bytes behind an address; an address has 64 bits
abbrev pub moved : (first offset : Option ℕ) → Option ℕ
moved (Some first) (Some offset) = if nat_lt (first + offset) (2 ^ 64) then Some (first + offset) else None
moved first offset = None

-- where a name leads, whose plus stands there
abbrev pub led_to : List Named → (plus : Option ℕ) → (word : List ℕ) → Option ℕ
led_to names None word = first_of names word
led_to names (Some plus) word = moved (first_of names (take plus word)) (word_number (drop (plus + 1) word))

-- what `NAME` or `NAME+OFFSET` says
abbrev pub place_said : List Named → (word : List ℕ) → Option ℕ
place_said names word = led_to names (position is_plus word) word

-- what either says where a range ends: `NAME` its last byte
abbrev pub end_said : List Named → (word : List ℕ) → Option ℕ
end_said names word = if is_some (position is_plus word) then place_said names word else last_of names word

-- what a word says: a number means itself, whatever names there are
abbrev pub address_said : List Named → (word : List ℕ) → Option ℕ
address_said names word = elim (word_number word) [ Some address ↦ Some address | None ↦ place_said names word ]
