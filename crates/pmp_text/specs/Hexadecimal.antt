-- Numbers in hexadecimal digits.
use Rattle.std.specs.Prelude.{ℕ, ◌++◌, codes, ◌+◌, ◌-◌, ◌*◌, ◌/◌, ◌%◌, ◌^◌, List, map, nat_lt, if◌then◌else◌}
use Rattle.std.specs.List.{range_with_len}
use Rattle.pmp_text.specs.declared.lines.hexadecimal.TheConstants.{VALUE_DIGITS}

-- in lower case
abbrev pub hex_digit : ℕ → ℕ
hex_digit digit = if nat_lt digit 10 then 48 + digit else 87 + digit

-- `width` digits of four bits each, the highest first
unfoldable pub hex_text : (width value : ℕ) → List ℕ
hex_text width value = map (λ place. hex_digit (value / 2 ^ (4 * (width - 1 - place)) % 16)) (range_with_len 0 width)

-- a register's value: `0x` and sixteen digits
abbrev pub value_text : ℕ → List ℕ
value_text value = codes "0x" ++ hex_text VALUE_DIGITS value
