-- An address in NAPOT form is spelled in one way, which its trailing ones give.
use Rattle.std.proofs.Common.{◌≡◌, ℕ, zero, suc, ◌+◌, ◌*◌, ◌/◌, ◌%◌, ◌^◌, ◌<◌, ◌-◌, add-one, bit_and, bit_or, refl, sym, ap, ap₂, ◌∙◌, arith}
use lib.Bits.{and_self, and_shifted, or_add_and, or_self}
use Rattle.std.specs.Int.{bit_at, trailing_ones, w64}
use Rattle.std.proofs.Math.Nat.{div-div-eq-div-mul, one-mul, pow-succ'}
use Rattle.std.proofs.lemmas.Nat.{and_block, and_comm, or_block, or_lt, pow-add, pow_pos}
use Rattle.std.proofs.lemmas.Nat.Bits.{bit_at-trailing_ones, bit_at-suc, bit_at_lowest}
use Rattle.pmp_core.specs.declared.register_write.TheConstants.{WORD_ADDRESSES}

-- k one bits below a zero bit
record EndsInOnes (a k : ℕ) : Type 0 where
  pub ones : (i : ℕ) → i < k → bit_at a i ≡ 1
  pub gap : bit_at a k ≡ 0

spelled_by : (k a : ℕ) → EndsInOnes a k → a + 1 ≡ a / 2 ^ suc k * 2 ^ suc k + 2 ^ k
spelled_by zero a h = let even : a % 2 ≡ 0 = sym (bit_at_lowest a) ∙ h.gap in omega arith
spelled_by (suc k) a h =
    let odd : a % 2 ≡ 1 = sym (bit_at_lowest a) ∙ h.ones 0 (omega arith) in
    let rest : EndsInOnes (a / 2) k = record {
      ones = λ i lt. sym (bit_at-suc a i) ∙ h.ones (suc i) (omega arith);
      gap = sym (bit_at-suc a k) ∙ h.gap;
    } in
    let half = spelled_by k (a / 2) rest in
    let whole : a / 2 / 2 ^ suc k ≡ a / 2 ^ suc (suc k) =
    div-div-eq-div-mul a 2 (2 ^ suc k) ∙ ap (λ (p : ℕ). a / p) (sym (pow-succ' 2 (suc k))) in
    let half' : a / 2 + 1 ≡ a / 2 ^ suc (suc k) * 2 ^ suc k + 2 ^ k =
    half ∙ ap (λ (q : ℕ). q * 2 ^ suc k + 2 ^ k) whole in
    omega (
      arith,
      pow-succ' 2 (suc k),
      pow-succ' 2 k,
      half',
      ap (λ (p : ℕ). a / 2 ^ suc (suc k) * p) (pow-succ' 2 (suc k)),
    )

-- no other pair spells the same number
pub spelled_once : (k j y z : ℕ) → y * 2 ^ suc k + 2 ^ k ≡ z * 2 ^ suc j + 2 ^ j → (k ≡ j) × (y ≡ z)
spelled_once zero zero y z e = (refl, omega arith)
spelled_once zero (suc j) y z e = absurd (omega (
  arith,
  pow-succ' 2 (suc j),
  pow-succ' 2 j,
  ap (λ (p : ℕ). z * p) (pow-succ' 2 (suc j)),
))
spelled_once (suc k) zero y z e = absurd (omega (
  arith,
  pow-succ' 2 (suc k),
  pow-succ' 2 k,
  ap (λ (p : ℕ). y * p) (pow-succ' 2 (suc k)),
))
spelled_once (suc k) (suc j) y z e =
    let half : y * 2 ^ suc k + 2 ^ k ≡ z * 2 ^ suc j + 2 ^ j =
    omega (
      arith,
      pow-succ' 2 (suc k),
      pow-succ' 2 k,
      pow-succ' 2 (suc j),
      pow-succ' 2 j,
      ap (λ (p : ℕ). y * p) (pow-succ' 2 (suc k)),
      ap (λ (p : ℕ). z * p) (pow-succ' 2 (suc j)),
    ) in
    let rest = spelled_once k j y z half in
    (ap suc rest.0, rest.1)

ends_in_ones : (a : ℕ) → a < WORD_ADDRESSES → EndsInOnes a (trailing_ones w64 a)
ends_in_ones a small = let h = bit_at-trailing_ones w64 a (omega arith) in record { ones = h.2; gap = h.1 }

pub spelled_by_ones : (a : ℕ) → a < WORD_ADDRESSES
    → a + 1 ≡ a / 2 ^ suc (trailing_ones w64 a) * 2 ^ suc (trailing_ones w64 a) + 2 ^ trailing_ones w64 a
spelled_by_ones a small = spelled_by (trailing_ones w64 a) a (ends_in_ones a small)

module _ (a : ℕ) (small : a < WORD_ADDRESSES) where
  abbrev k : ℕ
  k = trailing_ones w64 a

  abbrev y : ℕ
  y = a / 2 ^ (k + 1)

  one_more : a + 1 ≡ y * 2 ^ (k + 1) + 2 ^ k
  one_more = rw (add-one k) (spelled_by_ones a small)

  double : 2 ^ (k + 1) ≡ 2 * 2 ^ k
  double = ap (λ (n : ℕ). 2 ^ n) (add-one k) ∙ pow-succ' 2 k

  half : 2 ^ k < 2 ^ (k + 1)
  half = omega (arith, double, pow_pos k)

  ones : a ≡ y * 2 ^ (k + 1) + (2 ^ k - 1)
  ones = omega (arith, one_more, pow_pos k)

  apart : bit_and (2 ^ k - 1) (2 ^ k) ≡ 0
  apart = and_comm (2 ^ k - 1) (2 ^ k) ∙ ap (λ (n : ℕ). bit_and n (2 ^ k - 1)) (sym (one-mul (2 ^ k)))
      ∙ and_shifted 1 k (2 ^ k - 1) (omega (arith, pow_pos k))

  -- the address and the next have in common what is above the ones and the zero bit
  pub in_both : bit_and a (a + 1) ≡ y * 2 ^ (k + 1)
  in_both = ap₂ bit_and ones one_more
      ∙ and_block (k + 1) y y (2 ^ k - 1) (2 ^ k) (omega (arith, half)) half
      ∙ (λ i. and_self y i * 2 ^ (k + 1) + apart i) ∙ omega arith

  -- and in one of them, all ones below too
  pub in_either : bit_or a (a + 1) + 1 ≡ (y + 1) * 2 ^ (k + 1)
  in_either = ap (λ (n : ℕ). n + 1) (ap₂ bit_or ones one_more
      ∙ or_block (k + 1) y y (2 ^ k - 1) (2 ^ k) (omega (arith, half)) half)
      ∙ (λ i. or_self y i * 2 ^ (k + 1) + bit_or (2 ^ k - 1) (2 ^ k) + 1)
      ∙ omega (arith, apart, or_add_and (2 ^ k - 1) (2 ^ k), double, pow_pos k)

  pub either_small : bit_or a (a + 1) < 2 ^ 55
  either_small = or_lt 55 a (a + 1) (omega arith) (omega arith)

  four : 4 * 2 ^ (k + 1) ≡ 2 ^ (k + 3)
  four = omega (arith, pow-add 2 k 3, pow-add 2 k 1)

  pub start_is : 4 * bit_and a (a + 1) ≡ y * 2 ^ (k + 3)
  start_is = omega (arith, in_both, ap (λ (n : ℕ). y * n) four)

  pub end_is : 4 * (bit_or a (a + 1) + 1) ≡ y * 2 ^ (k + 3) + 2 ^ (k + 3)
  end_is = omega (arith, in_either, ap (λ (n : ℕ). y * n) four, four)
