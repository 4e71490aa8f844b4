-- Reading a numeral digit by digit.
use Rattle.std.proofs.Common.{◌≡◌, ℕ, ◌+◌, ◌*◌, ◌%◌, ltb, ◌^◌, ◌<◌, ◌≤◌, true, List, length, get_or, take, Some, None}
use Rattle.std.proofs.Common.{sym, ap, ◌∙◌, arith}
use Rattle.std.specs.List.{list_all}
use Rattle.std.specs.Char.{is_digit, digit_value}
use Rattle.std.specs.Str.Parse.{digits_value}
use Rattle.std.proofs.lemmas.Bool.{le-ltb, lt-ltb, and_right, and_from, cond-false, cond_both}
use Rattle.std.proofs.lemmas.Int.Digits.{digits_value_more}
use Rattle.std.proofs.lemmas.Str.Parse.{digits_value-take-le}
use Rattle.std.proofs.lemmas.List.Folds.{list_all_more}
use Rattle.pmp_text.specs.Hexadecimal.{hex_digit}
use Rattle.pmp_text.specs.Numbers.{is_numeral, numeral}

pub too_large : (radix most : ℕ) (bytes : List ℕ) (i value : ℕ) → i < length bytes → 2 ≤ radix
    → value ≡ digits_value radix (take i bytes) → 2 ^ 64 ≤ value * radix + digit_value (get_or bytes i 0)
    → None ≡ numeral radix most bytes
unfolding numeral
too_large radix most bytes i value within base so_far large =
    let more = digits_value_more radix bytes i within in
    let part = digits_value-take-le radix bytes (i + 1) (omega arith) in
    let over : 2 ^ 64 ≤ digits_value radix (take (i + 1) bytes) = rw (more, ← so_far) large in
    let whole : 2 ^ 64 ≤ digits_value radix bytes = omega arith in
    sym (cond-false _ (Some (digits_value radix bytes)) None
    (and_right (is_numeral radix most bytes) _ (le-ltb _ _ whole)))

pub one_digit_more : (radix : ℕ) (bytes : List ℕ) (i value longer : ℕ) → i < length bytes
    → value ≡ digits_value radix (take i bytes) → longer ≡ value * radix + digit_value (get_or bytes i 0)
    → longer ≡ digits_value radix (take (i + 1) bytes)
one_digit_more radix bytes i value longer within so_far next = next
    ∙ ap (λ (v : ℕ). v * radix + digit_value (get_or bytes i 0)) so_far ∙ sym (digits_value_more radix bytes i within)

pub still_digits : (radix : ℕ) (bytes : List ℕ) (i : ℕ) → i < length bytes
    → list_all (λ byte. is_digit byte radix) (take i bytes) ≡ true → digit_value (get_or bytes i 0) < radix
    → list_all (λ byte. is_digit byte radix) (take (i + 1) bytes) ≡ true
still_digits radix bytes i within so_far next = list_all_more (λ byte. is_digit byte radix) bytes i 0 within
    ∙ and_from _ _ so_far (lt-ltb _ _ next)

pub hex_digit_is_ascii : (value : ℕ) → hex_digit (value % 16) < 128
hex_digit_is_ascii value =
    cond_both (ltb (value % 16) 10) (48 + value % 16) (87 + value % 16) (λ (digit : ℕ). digit < 128) (λ _. omega arith)
    (λ _. omega arith)
