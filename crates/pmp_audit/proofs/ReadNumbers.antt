-- Written numbers are read back, and call for no quotes.
use Rattle.std.proofs.Common.{◌≡◌, ℕ, zero, suc, ◌+◌, ◌-◌, ◌/◌, ◌%◌, ◌^◌, ◌<◌, ◌≤◌, Bool, true, false}
use Rattle.std.proofs.Common.{List, [], ◌∷◌, ◌++◌, Some, length, replicate, refl, sym, ap, ◌∙◌, append-nil, arith}
use Rattle.std.proofs.Common.{inl, inr}
use Rattle.std.proofs.Common.{pow-suc, take}
use Rattle.std.specs.Str.{bytes_eq}
use Rattle.std.specs.Prelude.{◌&&◌, ◌==◌, decimal, codes}
use Rattle.std.specs.List.{list_all}
use Rattle.std.specs.Char.{is_digit, digit_value}
use Rattle.std.specs.Fmt.{digits, digits_onto, digit_glyph, char_count, padded_integral}
use Rattle.std.specs.Str.Parse.{AllDigits, digits_value}
use Rattle.std.proofs.lemmas.Bool.{agree_below, agree_below_at, and_from, and_left, and_right, cases_Bool, cases_lt}
use Rattle.std.proofs.lemmas.Bool.{eq-eqb, lt-ltb, le-leb, ne_eqb, or_from}
use Rattle.std.proofs.lemmas.Fmt.{decimal_is_IsNumeral, digits_is_IsNumeral, length-decimal-le}
use Rattle.std.proofs.lemmas.List.{length-append, length-replicate}
use Rattle.std.proofs.lemmas.Grind.{common_steps}
use Rattle.csv.specs.Quoting.{needs_byte}
use Rattle.csv.specs.Writing.{default_writer}
use Rattle.pmp_text.specs.Numbers.{is_bare, is_numeral, numeral, word_number}
use Rattle.pmp_audit.specs.PolicyDraft.{address_text}
use Rattle.pmp_audit.proofs.PlainRows.{Plain}

-- ---- digits

is_marked_digit : ℕ → Bool
is_marked_digit byte = is_digit byte 16 && needs_byte default_writer byte

none_marked : agree_below is_marked_digit (λ _. false) 128 ≡ true
unfolding is_marked_digit
none_marked = refl

-- a byte beyond ASCII is no digit
above_ascii : (byte : ℕ) → 128 ≤ byte → is_digit byte 16 ≡ false
above_ascii byte far = grind (arith, common_steps)

no_mark : (byte : ℕ) → is_digit byte 16 ≡ true → needs_byte default_writer byte ≡ false
unfolding is_marked_digit
no_mark byte digit = elim (cases_lt byte 128) [
  | inl low ↦ sym (rw digit refl) ∙ agree_below_at is_marked_digit (λ _. false) 128 byte none_marked low
  | inr far ↦ absurd (let t : true ≡ false = sym digit ∙ above_ascii byte far in cc)
]

pub plain_digits : (word : List ℕ) → list_all (λ byte. is_digit byte 16) word ≡ true → Plain word
plain_digits [] are = refl
plain_digits (byte ∷ rest) are = elim (cases_Bool (is_digit byte 16)) [
  | inl is ↦ or_from _ _ (no_mark byte is) (plain_digits rest (rw is at are))
  | inr other ↦ absurd (let t : false ≡ true = rw other at are in cc)
]

-- digits are also digits of a greater base
all_digits : (radix wide : ℕ) (word : List ℕ) → radix ≤ wide → AllDigits radix word
    → list_all (λ byte. is_digit byte wide) word ≡ true
all_digits radix wide [] within are = refl
all_digits radix wide (byte ∷ rest) within (here, more) =
    and_from _ _ (lt-ltb _ _ (omega (arith, here, within))) (all_digits radix wide rest within more)

-- ---- hexadecimal

few : (count turns value : ℕ) (behind : List ℕ) → value < 16 ^ suc count
    → length (digits_onto turns 16 false value behind) ≤ suc count + length behind
few count zero value behind below = omega arith
few zero (suc turns) value behind below =
    let last : (value / 16 == 0) ≡ true = eq-eqb _ 0 (omega (arith, below)) in rw last (omega arith)
few (suc count) (suc turns) value behind below =
    let next : value / 16 < 16 ^ suc count = omega (arith, below, pow-suc 16 (suc count)) in
    let short = few count turns (value / 16) (digit_glyph false (value % 16) ∷ behind) next in
    elim (cases_Bool (value / 16 == 0)) [
      | inl last ↦ rw last (omega arith)
      | inr more ↦ rw more (omega (arith, short))
    ]

few_digits : (address : ℕ) → address < 2 ^ 56 → length (digits 16 false address) ≤ 14
unfolding digits
few_digits address inside = few 13 64 address [] (omega (arith, inside))

-- zeros, and then the digits
zeros_before : (address : ℕ) → address_text address
    ≡ replicate (14 - length (digits 16 false address) - 0 - 0) 48 ++ (digits 16 false address ++ [])
unfolding padded_integral char_count
zeros_before address = refl

value_behind_zeros : (zeros : ℕ) (word : List ℕ) → digits_value 16 (replicate zeros 48 ++ word) ≡ digits_value 16 word
value_behind_zeros zero word = refl
value_behind_zeros (suc zeros) word = value_behind_zeros zeros word

digits_behind_zeros : (zeros : ℕ) (word : List ℕ) → list_all (λ byte. is_digit byte 16) word ≡ true
    → list_all (λ byte. is_digit byte 16) (replicate zeros 48 ++ word) ≡ true
digits_behind_zeros zero word are = are
digits_behind_zeros (suc zeros) word are = digits_behind_zeros zeros word are

-- ---- a number

numeral_is : (radix most : ℕ) (word : List ℕ) (value : ℕ) → 0 < length word → length word ≤ most
    → list_all (λ byte. is_digit byte radix) word ≡ true → digits_value radix word ≡ value → value < 2 ^ 64
    → numeral radix most word ≡ Some value
unfolding numeral is_numeral
numeral_is radix most word value some short digits is below =
    rw (lt-ltb 0 (length word) some, le-leb (length word) most short, digits, is, lt-ltb value (2 ^ 64) below) refl

module _ (address : ℕ) (inside : address < 2 ^ 56) where
  abbrev own : List ℕ
  own = digits 16 false address

  zeros : ℕ
  zeros = 14 - length own - 0 - 0

  own_is : AllDigits 16 own × (0 < length own) × (digits_value 16 own ≡ address)
  own_is =
      let (numeral, value) =
      digits_is_IsNumeral 16 false (omega arith) (omega arith) address (omega (arith, inside)) in
      (numeral.1, numeral.0, value)

  text_is : address_text address ≡ replicate zeros 48 ++ own
  unfolding zeros
  text_is = zeros_before address ∙ ap (λ (l : List ℕ). replicate zeros 48 ++ l) (append-nil own)

  are_digits : list_all (λ byte. is_digit byte 16) (address_text address) ≡ true
  are_digits = rw text_is (digits_behind_zeros zeros own (all_digits 16 16 own (omega arith) (own_is.0)))

  value_is : digits_value 16 (address_text address) ≡ address
  value_is = rw text_is (value_behind_zeros zeros own ∙ own_is.2)

  length_is : length (address_text address) ≡ 14
  unfolding zeros
  length_is = ap (λ (l : List ℕ). length l) text_is ∙ length-append (replicate zeros 48) own
      ∙ (let count : length (replicate zeros 48) ≡ zeros = length-replicate {A = ℕ} zeros 48 in
      let short = few_digits address inside in
      omega (arith, count, short))

  pub address_read : word_number (codes "0x" ++ address_text address) ≡ Some address
  address_read = numeral_is 16 16 (address_text address) address (omega (arith, length_is)) (omega (arith, length_is))
      are_digits value_is (omega (arith, inside))

  pub address_plain : Plain (codes "0x" ++ address_text address)
  address_plain = plain_digits (address_text address) are_digits

  pub address_not_bare : is_bare (codes "0x" ++ address_text address) ≡ false
  address_not_bare = and_right _ _ refl

-- ---- a decimal number

no_prefix : (word : List ℕ) → AllDigits 10 word → bytes_eq (take 2 word) (codes "0x") ≡ false
no_prefix [] are = refl
no_prefix (first ∷ []) are = and_right _ _ refl
no_prefix (first ∷ second ∷ rest) (here, (next, more)) = and_right _ _ (and_left (second == 120) _ (ne_eqb second 120
    (λ same. let wrong : digit_value 120 < 10 = rw same at next in omega (arith, wrong))))

module _ (number : ℕ) (below : number < 2 ^ 64) where
  is_numeral_of : AllDigits 10 (decimal number) × (0 < length (decimal number))
      × (digits_value 10 (decimal number) ≡ number)
  is_numeral_of = let (numeral, value) = decimal_is_IsNumeral number below in (numeral.1, numeral.0, value)

  pub decimal_read : word_number (decimal number) ≡ Some number
  decimal_read =
      rw (no_prefix (decimal number) (is_numeral_of.0)) (numeral_is 10 20 (decimal number) number (is_numeral_of.1)
      (length-decimal-le 20 number (omega arith) (omega (arith, below)) below)
      (all_digits 10 10 (decimal number) (omega arith) (is_numeral_of.0)) (is_numeral_of.2) below)

  pub decimal_plain : Plain (decimal number)
  decimal_plain = plain_digits (decimal number) (all_digits 10 16 (decimal number) (omega arith) (is_numeral_of.0))
