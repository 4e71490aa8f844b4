-- Numbers as words.
use Rattle.std.specs.Prelude.{ℕ, ◌^◌, List, length, take, drop, Bool, ◌&&◌, Option, Some, None, nat_lt, nat_le, codes}
use Rattle.std.specs.Prelude.{bytes_eq, ◌==◌, not, if◌then◌else◌}
use Rattle.std.specs.List.{list_all}
use Rattle.std.specs.Char.{is_digit}
use Rattle.std.specs.Str.Parse.{digits_value}

-- at least one digit in the radix, at most `most`, and nothing else
unfoldable pub is_numeral : (radix most : ℕ) → List ℕ → Bool
is_numeral radix most bytes = nat_lt 0 (length bytes) && nat_le (length bytes) most
    && list_all (λ byte. is_digit byte radix) bytes

-- the value of a numeral, if it is below 2^64
unfoldable pub numeral : (radix most : ℕ) → List ℕ → Option ℕ
numeral radix most bytes = if is_numeral radix most bytes && nat_lt (digits_value radix bytes) (2 ^ 64)
    then Some (digits_value radix bytes) else None

-- a word's number: `0x` and 1 to 16 hexadecimal digits of either case, or 1 to 20 decimal digits
abbrev pub word_number : List ℕ → Option ℕ
word_number word = if bytes_eq (take 2 word) (codes "0x") then numeral 16 16 (drop 2 word) else numeral 10 20 word

-- a number of 14 digits without `0x`, as rows have for hexadecimal addresses
abbrev pub is_bare : List ℕ → Bool
is_bare word = (length word == 14) && not (bytes_eq (take 2 word) (codes "0x"))
