-- The eight bytes of a word.
use borrow.Rule.Slice.PartMut.{put_mid, same_len_mid}
use native.Mathlib.Nat.{add_comm, div-eq_of_lt, mod-eq_of_lt, mod-lt}
use lib.Bits.{and_self, and_step, and_zero_r, or_step, or_zero_l, or_zero_r}
use Rattle.std.proofs.Common.{rules, ◌≡◌, ℕ, zero, suc, ◌+◌, ◌-◌, ◌*◌, ◌/◌, ◌%◌, ◌<◌, ◌≤◌, ◌^◌, ◌==◌, cond, map, max, min, not, get_or, Bool, true, false}
use Rattle.std.proofs.Common.{List, length, take, drop, slice_index, length-take, length-drop}
use Rattle.std.proofs.Common.{nat_lt, bit_and, bit_or, refl, sym, ap, ap₂, ◌∙◌, inl, inr, arith}
use Rattle.std.specs.Int.{w64, byte_at, bytes_low_first, from_le_bytes, to_le_bytes}
use Rattle.std.specs.List.{range_with_len}
use Rattle.std.proofs.lemmas.Nat.{and_assoc, and_le_r, and_mask, and_mod, and_shr, mod-pow-add, mod_low, or_mod, or_shr}
use Rattle.std.proofs.lemmas.Nat.{le_bytes_8, pow_pos, shr-shr, shr_high, xor_mod, xor_shr}
use Rattle.std.specs.Int.Bits.{bit_xor, xor_assoc, xor_self, xor_zero_l, xor_zero_r}
use Rattle.std.proofs.Math.Pow.{pow_mono}
use Rattle.std.proofs.Math.ListN.{get_or-append}
use Rattle.std.proofs.Math.Seq.{get_or-append_right}
use Rattle.std.proofs.lemmas.List.{get_or-drop, get_or-take, get_or_past}
use Rattle.std.proofs.lemmas.Bool.{cases_eq, cases_lt, eq-eqb, lt-ltb, le-ltb, ne_eqb}
use Rattle.pmp_core.specs.Bytes.{AreFlags, ArePut, byte}
use Rattle.pmp_core.specs.Configuration.{bit_of}
use Rattle.pmp_core.specs.declared.configuration_word.TheConstants.{ONES}

-- what holds of each of eight places
pub of_eight : (P : ℕ → Type 0) → P 0 → P 1 → P 2 → P 3 → P 4 → P 5 → P 6 → P 7 → (j : ℕ) → j < 8 → P j
of_eight P a b c d e f g h zero near = a
of_eight P a b c d e f g h (suc zero) near = b
of_eight P a b c d e f g h (suc (suc zero)) near = c
of_eight P a b c d e f g h (suc (suc (suc zero))) near = d
of_eight P a b c d e f g h (suc (suc (suc (suc zero)))) near = e
of_eight P a b c d e f g h (suc (suc (suc (suc (suc zero))))) near = f
of_eight P a b c d e f g h (suc (suc (suc (suc (suc (suc zero)))))) near = g
of_eight P a b c d e f g h (suc (suc (suc (suc (suc (suc (suc zero))))))) near = h
of_eight P a b c d e f g h (suc (suc (suc (suc (suc (suc (suc (suc j)))))))) near = absurd (omega arith)

pub byte_is : (word j : ℕ) → j < 8 → byte word j ≡ word / 2 ^ (8 * j) % 256
byte_is word = of_eight (λ j. byte word j ≡ word / 2 ^ (8 * j) % 256) (omega arith) refl refl refl refl refl refl refl

byte_at_small : (i value : ℕ) → byte_at i value < 256
byte_at_small i value = search rules

bytes_small : (i k value j : ℕ) → get_or (bytes_low_first i k value) j 0 < 256
bytes_small i zero value j = omega arith
bytes_small i (suc k) value zero = byte_at_small i value
bytes_small i (suc k) value (suc j) = bytes_small (suc i) k value j

pub byte_small : (value j : ℕ) → byte value j < 256
byte_small value j = bytes_small 0 8 value j

pub byte_and : (a b j : ℕ) → j < 8 → byte (bit_and a b) j ≡ bit_and (byte a j) (byte b j)
byte_and a b j near =
    byte_is (bit_and a b) j near ∙ ap (λ n. n % 256) (and_shr a b (8 * j))
    ∙ and_mod (a / 2 ^ (8 * j)) (b / 2 ^ (8 * j)) 8
    ∙ ap₂ bit_and (sym (byte_is a j near)) (sym (byte_is b j near))

pub byte_or : (a b j : ℕ) → j < 8 → byte (bit_or a b) j ≡ bit_or (byte a j) (byte b j)
byte_or a b j near =
    byte_is (bit_or a b) j near ∙ ap (λ n. n % 256) (or_shr a b (8 * j))
    ∙ or_mod (a / 2 ^ (8 * j)) (b / 2 ^ (8 * j)) 8
    ∙ ap₂ bit_or (sym (byte_is a j near)) (sym (byte_is b j near))

byte_xor : (a b j : ℕ) → j < 8 → byte (bit_xor a b) j ≡ bit_xor (byte a j) (byte b j)
byte_xor a b j near =
    byte_is (bit_xor a b) j near ∙ ap (λ n. n % 256) (xor_shr a b (8 * j))
    ∙ xor_mod (a / 2 ^ (8 * j)) (b / 2 ^ (8 * j)) 8
    ∙ ap₂ bit_xor (sym (byte_is a j near)) (sym (byte_is b j near))

same_if_none : (a b : ℕ) → bit_xor a b ≡ 0 → a ≡ b
same_if_none a b none = sym (xor_zero_r a) ∙ ap (bit_xor a) (sym (xor_self b)) ∙ sym (xor_assoc a b b)
    ∙ ap (λ n. bit_xor n b) none ∙ xor_zero_l b

-- two words differ in a byte
pub differ_byte : (a b j : ℕ) → j < 8 → not (byte (bit_xor a b) j == 0) ≡ not (byte a j == byte b j)
differ_byte a b j near = ap (λ n. not (n == 0)) (byte_xor a b j near) ∙ elim (cases_eq (byte a j) (byte b j)) [
  | inl same ↦ ap not (eq-eqb _ 0 (ap (λ n. bit_xor n (byte b j)) same ∙ xor_self (byte b j)) ∙ sym (eq-eqb _ _ same))
  | inr other ↦ ap not (ne_eqb _ 0 (λ none. other (same_if_none _ _ none)) ∙ sym (ne_eqb _ _ other))
]

pub byte_not : (a : ℕ) → a < 2 ^ 64 → (j : ℕ) → j < 8 → byte (18446744073709551615 - a) j ≡ 255 - byte a j
byte_not a small = of_eight (λ j. byte (18446744073709551615 - a) j ≡ 255 - byte a j) (omega arith) (omega arith)
    (omega arith) (omega arith) (omega arith) (omega arith) (omega arith) (omega arith)

-- by a mask that is the same for each
pub masked : (w mask m j : ℕ) → j < 8 → ((k : ℕ) → k < 8 → byte mask k ≡ m) → byte (bit_and w mask) j ≡ bit_and (byte w j) m
masked w mask m j near same = byte_and w mask j near ∙ ap (bit_and (byte w j)) (same j near)

-- ---- the lowest bit of each byte

low_and : (a b : ℕ) → bit_and a b % 2 ≡ min (a % 2) (b % 2)
low_and a b = omega (arith, and_step a b)

low_or : (a b : ℕ) → bit_or a b % 2 ≡ max (a % 2) (b % 2)
low_or a b = omega (arith, or_step a b)

-- bit p of byte j, as the lowest of the word shifted by p
pub low_shift : (a j : ℕ) → j < 8 → (p : ℕ) → p < 8 → byte (a / 2 ^ p) j % 2 ≡ byte a j / 2 ^ p % 2
low_shift a j near p small =
    let x = a / 2 ^ (8 * j) in
    let order : a / 2 ^ p / 2 ^ (8 * j) ≡ x / 2 ^ p = shr-shr a p (8 * j) ∙ ap (λ n. a / 2 ^ n) (add_comm p (8 * j))
    ∙ sym (shr-shr a (8 * j) p) in
    ap (λ b. b % 2) (byte_is (a / 2 ^ p) j near ∙ ap (λ n. n % 256) order) ∙ cut x p small
    ∙ ap (λ b. b / 2 ^ p % 2) (sym (byte_is a j near))
  where
    cut : (x p : ℕ) → p < 8 → x / 2 ^ p % 256 % 2 ≡ x % 256 / 2 ^ p % 2
    cut x = of_eight (λ p. x / 2 ^ p % 256 % 2 ≡ x % 256 / 2 ^ p % 2) (omega arith) (omega arith) (omega arith)
        (omega arith) (omega arith) (omega arith) (omega arith) (omega arith)

-- of a word with only these bits, each byte is its own
pub flag_byte : (a j : ℕ) → j < 8 → byte (bit_and a ONES) j ≡ byte a j % 2
flag_byte a j near = byte_and a ONES j near ∙ ap (bit_and (byte a j)) (ones j near) ∙ and_mask (byte a j) 1
  where
    ones : (j : ℕ) → j < 8 → byte ONES j ≡ 1
    ones = of_eight (λ j. byte ONES j ≡ 1) refl refl refl refl refl refl refl refl

pub are_flags : (a : ℕ) → AreFlags (bit_and a ONES)
are_flags a = and_assoc ONES a ONES ∙ ap (bit_and a) (and_self ONES)

pub flag_small : (f : ℕ) → AreFlags f → (j : ℕ) → j < 8 → byte f j ≤ 1
flag_small f flags j near =
    let is : byte f j ≡ byte f j % 2 = ap (λ n. byte n j) (sym flags) ∙ flag_byte f j near in
    omega arith

-- ---- bytes taken from one word or another

-- flags are so few that 255 times each stays in its byte
flags_times : (k a : ℕ) → ((j : ℕ) → j ≤ k → a / 2 ^ (8 * j) % 256 ≤ 1)
    → a * 255 / 2 ^ (8 * k) % 256 ≡ a / 2 ^ (8 * k) % 256 * 255
flags_times zero a few = let low = few 0 (omega arith) in omega arith
flags_times (suc k) a few =
    let low = few 0 (omega arith) in
    let rest : a * 255 / 256 ≡ a / 256 * 255 = omega arith in
    ap (λ n. n % 256) (next (a * 255) k ∙ ap (λ n. n / 2 ^ (8 * k)) rest)
    ∙ flags_times k (a / 256) (λ j within. rw (sym (next a j)) (few (suc j) (omega arith)))
    ∙ ap (λ n. n % 256 * 255) (sym (next a k))
  where
    eight : (j : ℕ) → 8 * suc j ≡ 8 + 8 * j
    eight j = omega arith

    next : (n j : ℕ) → n / 2 ^ (8 * suc j) ≡ n / 256 / 2 ^ (8 * j)
    next n j = ap (λ m. n / 2 ^ m) (eight j) ∙ sym (shr-shr n 8 (8 * j))

mask_byte : (f : ℕ) → AreFlags f → (j : ℕ) → j < 8 → byte (f * 255) j ≡ byte f j * 255
mask_byte f flags j near =
    byte_is (f * 255) j near
    ∙ flags_times j f (λ k within. rw (sym (byte_is f k (omega arith))) (flag_small f flags k (omega arith)))
    ∙ ap (λ n. n * 255) (sym (byte_is f j near))

picked : (flag one other : ℕ) → flag ≤ 1 → one < 256 → other < 256
    → bit_or (bit_and one (flag * 255)) (bit_and other (255 - flag * 255)) ≡ cond (flag == 1) one other
picked zero one other few y n = ap₂ bit_or (and_zero_r one) (and_mask other 8 ∙ mod-eq_of_lt n) ∙ or_zero_l other
picked (suc zero) one other few y n = ap₂ bit_or (and_mask one 8 ∙ mod-eq_of_lt y) (and_zero_r other) ∙ or_zero_r one
picked (suc (suc flag)) one other few y n = absurd (omega arith)

pub chosen_byte : (f one other : ℕ) → AreFlags f → (j : ℕ) → j < 8
    → byte (bit_or (bit_and one (f * 255)) (bit_and other (18446744073709551615 - f * 255))) j
    ≡ cond (byte f j == 1) (byte one j) (byte other j)
chosen_byte f one other flags j near =
    let few : f * 255 < 2 ^ 64 = omega (arith, flags, and_le_r f ONES) in
    let mask = mask_byte f flags j near in
    byte_or (bit_and one (f * 255)) (bit_and other (18446744073709551615 - f * 255)) j near
    ∙ ap₂ bit_or (byte_and one (f * 255) j near ∙ ap (bit_and (byte one j)) mask)
    (byte_and other (18446744073709551615 - f * 255) j near
    ∙ ap (bit_and (byte other j)) (byte_not (f * 255) few j near ∙ ap (λ n. 255 - n) mask))
    ∙ picked (byte f j) (byte one j) (byte other j) (flag_small f flags j near) (byte_small one j) (byte_small other j)

pub odd_and : (a b j : ℕ) → j < 8 → byte (bit_and a b) j % 2 ≡ min (byte a j % 2) (byte b j % 2)
odd_and a b j near = ap (λ n. n % 2) (byte_and a b j near) ∙ low_and (byte a j) (byte b j)

pub odd_or : (a b j : ℕ) → j < 8 → byte (bit_or a b) j % 2 ≡ max (byte a j % 2) (byte b j % 2)
odd_or a b j near = ap (λ n. n % 2) (byte_or a b j near) ∙ low_or (byte a j) (byte b j)

pub odd_not : (a j : ℕ) → a < 2 ^ 64 → j < 8 → byte (18446744073709551615 - a) j % 2 ≡ 1 - byte a j % 2
odd_not a j small near = let s = byte_small a j in let e = byte_not a small j near in omega arith

-- a flag says a test
pub by_flag : (flag one other : ℕ) (p : Bool) → flag ≡ bit_of p → cond (flag == 1) one other ≡ cond p one other
by_flag flag one other true is = rw is refl
by_flag flag one other false is = rw is refl

-- ---- shifted and cut

pub shifted_byte : (w s j : ℕ) → j < 8 → j + s < 8 → byte (w / 2 ^ (8 * s)) j ≡ byte w (j + s)
shifted_byte w s j near inside =
    let bits : 8 * s + 8 * j ≡ 8 * (j + s) = omega arith in
    byte_is (w / 2 ^ (8 * s)) j near
    ∙ ap (λ n. n % 256) (shr-shr w (8 * s) (8 * j) ∙ ap (λ n. w / 2 ^ n) bits) ∙ sym (byte_is w (j + s) inside)

pub byte_above : (w s j : ℕ) → j < 8 → w < 2 ^ 64 → 8 ≤ j + s → byte (w / 2 ^ (8 * s)) j ≡ 0
byte_above w s j near small past =
    let bits : 8 * s + 8 * j ≡ 8 * (j + s) = omega arith in
    byte_is (w / 2 ^ (8 * s)) j near
    ∙ ap (λ n. n % 256) (shr-shr w (8 * s) (8 * j) ∙ ap (λ n. w / 2 ^ n) bits
    ∙ div-eq_of_lt (omega (arith, small, pow_mono {i = 64} {j = 8 * (j + s)} (omega arith))))

lower : (w j k : ℕ) → w % 2 ^ (8 * (j + 1 + k)) / 2 ^ (8 * j) % 256 ≡ w / 2 ^ (8 * j) % 256
lower w j k =
    let x = w / 2 ^ (8 * j) in
    let parts : 8 * (j + 1 + k) ≡ 8 * k + 8 + 8 * j = omega arith in
    let cut : w % 2 ^ (8 * (j + 1 + k)) / 2 ^ (8 * j) ≡ x % 2 ^ (8 * k + 8) =
    ap (λ n. w % 2 ^ n / 2 ^ (8 * j)) parts ∙ ap (λ n. n / 2 ^ (8 * j)) (mod-pow-add w (8 * k + 8) (8 * j))
    ∙ shr_high (x % 2 ^ (8 * k + 8)) (8 * j) (w % 2 ^ (8 * j)) (mod-lt w (pow_pos (8 * j))) in
    ap (λ n. n % 256) (cut ∙ mod-pow-add x (8 * k) 8) ∙ mod_low (x / 2 ^ 8 % 2 ^ (8 * k)) 8 (x % 2 ^ 8) (mod-lt x (pow_pos 8))

pub lowest_byte : (w count j : ℕ) → j < 8 → byte (w % 2 ^ (8 * count)) j ≡ cond (nat_lt j count) (byte w j) 0
lowest_byte w count j near = elim (cases_lt j count) [
  | inl below ↦
      let is : j + 1 + (count - j - 1) ≡ count = omega arith in
      let same = lower w j (count - j - 1) in
      rw (lt-ltb j count below) (byte_is (w % 2 ^ (8 * count)) j near ∙ rw is at same ∙ sym (byte_is w j near))
  | inr past ↦
      let few : w % 2 ^ (8 * count) < 2 ^ (8 * count) = mod-lt w (pow_pos (8 * count)) in
      rw (le-ltb j count past) (byte_is (w % 2 ^ (8 * count)) j near
      ∙ ap (λ n. n % 256) (div-eq_of_lt (omega (arith, few, pow_mono {i = 8 * count} {j = 8 * j} (omega arith)))))
]

-- ---- a word by its bytes

pub zero_byte : (j : ℕ) → j < 8 → byte 0 j ≡ 0
zero_byte = of_eight (λ j. byte 0 j ≡ 0) refl refl refl refl refl refl refl refl

-- a word whose bytes f gives is the value of these bytes
pub word_from : (f : ℕ → ℕ) (value : ℕ) → value < 2 ^ 64 → ((j : ℕ) → j < 8 → byte value j ≡ f j)
    → from_le_bytes w64 (map f (range_with_len 0 8)) ≡ value
word_from f value small same = search rules

-- and has them
pub word_gives : (f : ℕ → ℕ) (value : ℕ) → ((j : ℕ) → j < 8 → f j < 256)
    → from_le_bytes w64 (map f (range_with_len 0 8)) ≡ value → (j : ℕ) → j < 8 → byte value j ≡ f j
word_gives f value bytes same j near = search rules

-- a word loaded from eight bytes of a list
pub loaded_byte : (xs : List ℕ) (from : ℕ) (bytes : List ℕ) (w : ℕ) → ((i : ℕ) → get_or xs i 0 < 256)
    → from + 8 ≤ length xs → bytes ≡ take 8 (drop from xs) → w ≡ from_le_bytes w64 bytes
    → (j : ℕ) → j < 8 → byte w j ≡ slice_index xs (from + j)
loaded_byte xs from bytes w small inside are is j near =
    let long : length bytes ≡ 8 = rw are (simp (length-take, length-drop) (omega arith)) in
    let fits : (i : ℕ) → get_or bytes i 0 < 256 = λ i. elim (cases_lt i 8) [
      | inl inside ↦ rw (are, get_or-take 8 (drop from xs) i 0 inside, get_or-drop from xs i 0) (small (from + i))
      | inr past ↦ rw (get_or_past bytes i 0 (omega (arith, long))) (omega arith)
    ] in
    ap (λ (l : List ℕ). get_or l j 0) (le_bytes_8 bytes w long fits is ∙ are)
    ∙ get_or-take 8 (drop from xs) j 0 near ∙ get_or-drop from xs j 0

-- its lowest bytes put into a list
pub are_put : (xs ys : List ℕ) (first word count size : ℕ) → ys ≡ take count (to_le_bytes w64 word) → size ≡ count
    → count ≤ 8 → first + count ≤ length xs → ArePut xs (put_mid first size xs ys) first word count
are_put xs ys first word count size is whole few inside =
    let long : length ys ≡ count = rw is (simp length-take (omega arith)) in
    let front : length (take first xs) ≡ first = simp length-take (omega arith) in
    let left : length (drop first xs) ≡ length xs - first = length-drop first xs in
    let middle : length ys ≡ length (take size (drop first xs)) = omega (arith, long, whole, left, length-take size (drop first xs)) in
    record {
      long = same_len_mid first size xs ys middle;
      put = λ k low high. get_or-append_right (take first xs) _ k 0 (omega (arith, front))
          ∙ get_or-append ys _ 0 (k - length (take first xs)) (omega (arith, front, long))
          ∙ rw front (ap (λ (l : List ℕ). get_or l (k - first) 0) is
          ∙ get_or-take count (to_le_bytes w64 word) (k - first) 0 (omega arith));
      kept = λ k apart. elim (cases_lt k first) [
        | inl below ↦ get_or-append (take first xs) _ 0 k (omega (arith, front)) ∙ get_or-take first xs k 0 below
        | inr low ↦
            let past = apart low in
            let place : first + (size + (k - length (take first xs) - length ys)) ≡ k = omega (arith, front, long, whole, past) in
            get_or-append_right (take first xs) _ k 0 (omega (arith, front))
            ∙ get_or-append_right ys _ (k - length (take first xs)) 0 (omega (arith, front, long))
            ∙ get_or-drop size (drop first xs) (k - length (take first xs) - length ys) 0
            ∙ get_or-drop first xs (size + (k - length (take first xs) - length ys)) 0 ∙ ap (λ n. get_or xs n 0) place
      ];
    }
