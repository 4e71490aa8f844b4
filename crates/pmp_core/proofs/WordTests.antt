-- What a configuration byte says, as tests of its bits.
use borrow.Author.Tests.{tests}
use Rattle.std.proofs.Common.{rules, ◌≡◌, ℕ, ◌-◌, ◌*◌, ◌/◌, ◌%◌, ◌<◌, ◌^◌, ◌==◌, Bool, true, false, not, ◌&&◌, cond, max, min, bit_and, bit_or}
use Rattle.std.proofs.Common.{◌+◌, ◌≤◌, refl, sym, ap, ap₂, ◌∙◌, inl, inr, arith}
use Rattle.std.proofs.lemmas.Nat.{and_le_r, shr-shr, shr_le, trailing_le}
use Rattle.std.proofs.lemmas.Nat.Bits.{bit_at-trailing_zeros}
use Rattle.std.specs.Int.{trailing_zeros, w64}
use Rattle.std.proofs.lemmas.Bool.{agree_below, agree_below_at, cases_eq, eqb-true}
use Rattle.pmp_core.specs.declared.configuration.AddressMatching.TheVariants.{Off}
use Rattle.pmp_core.specs.Bytes.{byte}
use Rattle.pmp_core.specs.Configuration.{Configuration, bit_of, byte_of, configuration_of, is_reserved}
use Rattle.pmp_core.specs.Grain.{is_na4, selectable}
use Rattle.pmp_core.specs.RegisterWrite.{without_reserved}
use Rattle.pmp_core.specs.declared.configuration_word.TheConstants.{ONES}
use Rattle.pmp_core.proofs.StoredBytes.{is_barred_byte}
use Rattle.pmp_core.proofs.WordBytes.{byte_is, byte_small, flag_byte, low_shift, odd_and, odd_not, odd_or, of_eight}
use Rattle.pmp_core.proofs.WordBytes.{masked, zero_byte}

-- two numbers of each byte are the same, by trying all
by_trying : (f g : ℕ → ℕ) → agree_below (λ b. f b == g b) (λ _. true) 256 ≡ true → (b : ℕ) → b < 256 → f b ≡ g b
by_trying f g all b small = eqb-true _ _ (agree_below_at (λ b. f b == g b) (λ _. true) 256 b all small)

abbrev not_word : ℕ → ℕ
not_word w = 18446744073709551615 - w

module _ (w : ℕ) (small : w < 2 ^ 64) (j : ℕ) (near : j < 8) where
  abbrev b : ℕ
  b = byte w j

  bit : (p : ℕ) → p < 8 → byte (w / 2 ^ p) j % 2 ≡ b / 2 ^ p % 2
  bit p few = low_shift w j near p few

  not_bit : (p : ℕ) → p < 8 → byte (not_word (w / 2 ^ p)) j % 2 ≡ 1 - b / 2 ^ p % 2
  not_bit p few = odd_not (w / 2 ^ p) j (omega (arith, shr_le w p)) near ∙ ap (λ n. 1 - n) (bit p few)

  pub locked_byte : byte (bit_and (w / 128) ONES) j ≡ bit_of (configuration_of b).locked
  locked_byte = flag_byte (w / 128) j near ∙ bit 7 (omega arith)
      ∙ by_trying (λ b. b / 128 % 2) (λ b. bit_of (configuration_of b).locked) refl b (byte_small w j)

  pub reserved_byte : byte (bit_and (bit_and (w / 2) (not_word w)) ONES) j ≡ bit_of (is_reserved (configuration_of b))
  reserved_byte =
      flag_byte (bit_and (w / 2) (not_word w)) j near ∙ odd_and (w / 2) (not_word w) j near
      ∙ ap₂ min (bit 1 (omega arith)) (odd_not w j small near)
      ∙ by_trying (λ b. min (b / 2 % 2) (1 - b % 2)) (λ b. bit_of (is_reserved (configuration_of b))) refl b (byte_small w j)

  pub barred_byte : byte (bit_and (bit_and (w / 128) (bit_or (bit_and (w / 4) (not_word (w / 2))) (bit_and (w / 2) (not_word w)))) ONES) j ≡ bit_of (is_barred_byte b)
  barred_byte =
      let x = bit_and (w / 4) (not_word (w / 2)) in
      let y = bit_and (w / 2) (not_word w) in
      flag_byte (bit_and (w / 128) (bit_or x y)) j near ∙ odd_and (w / 128) (bit_or x y) j near
      ∙ ap₂ min (bit 7 (omega arith)) (odd_or x y j near ∙ ap₂ max
      (odd_and (w / 4) (not_word (w / 2)) j near ∙ ap₂ min (bit 2 (omega arith)) (not_bit 1 (omega arith)))
      (odd_and (w / 2) (not_word w) j near ∙ ap₂ min (bit 1 (omega arith)) (odd_not w j small near)))
      ∙ by_trying (λ b. min (b / 128 % 2) (max (min (b / 4 % 2) (1 - b / 2 % 2)) (min (b / 2 % 2) (1 - b % 2))))
      (λ b. bit_of (is_barred_byte b)) refl b (byte_small w j)

  pub na4_byte : byte (bit_and (bit_and (w / 16) (not_word (w / 8))) ONES) j ≡ bit_of (is_na4 (configuration_of b).matching)
  na4_byte =
      flag_byte (bit_and (w / 16) (not_word (w / 8))) j near ∙ odd_and (w / 16) (not_word (w / 8)) j near
      ∙ ap₂ min (bit 4 (omega arith)) (not_bit 3 (omega arith))
      ∙ by_trying (λ b. min (b / 16 % 2) (1 - b / 8 % 2)) (λ b. bit_of (is_na4 (configuration_of b).matching)) refl b (byte_small w j)

module _ (w j : ℕ) (near : j < 8) where
  plain_masked : byte (bit_and w (159 * ONES)) j ≡ bit_and (byte w j) 159
  plain_masked = masked w (159 * ONES) 159 j near
      (of_eight (λ k. byte (159 * ONES) k ≡ 159) refl refl refl refl refl refl refl refl)

  pub plain_byte : byte (bit_and w (159 * ONES)) j ≡ byte_of (configuration_of (byte w j))
  plain_byte = plain_masked
      ∙ by_trying (λ b. bit_and b 159) (λ b. byte_of (configuration_of b)) refl (byte w j) (byte_small w j)

  pub bare_byte : cond (is_reserved (configuration_of (byte w j))) (byte (bit_and w (152 * ONES)) j)
      (byte_of (configuration_of (byte w j))) ≡ byte_of (without_reserved (configuration_of (byte w j)))
  bare_byte =
      ap (λ b. cond (is_reserved (configuration_of (byte w j))) b (byte_of (configuration_of (byte w j))))
      (masked w (152 * ONES) 152 j near (of_eight (λ k. byte (152 * ONES) k ≡ 152) refl refl refl refl refl refl refl refl))
      ∙ by_trying (λ b. cond (is_reserved (configuration_of b)) (bit_and b 152) (byte_of (configuration_of b)))
      (λ b. byte_of (without_reserved (configuration_of b))) refl (byte w j) (byte_small w j)

  pub off_byte : cond (is_na4 (configuration_of (byte w j)).matching) (byte (bit_and w (143 * ONES)) j)
      (byte_of (configuration_of (byte w j))) ≡ byte_of (selectable 1 (configuration_of (byte w j)))
  off_byte =
      ap (λ b. cond (is_na4 (configuration_of (byte w j)).matching) b (byte_of (configuration_of (byte w j))))
      (masked w (143 * ONES) 143 j near (of_eight (λ k. byte (143 * ONES) k ≡ 143) refl refl refl refl refl refl refl refl))
      ∙ by_trying (λ b. cond (is_na4 (configuration_of b).matching) (bit_and b 143) (byte_of (configuration_of b)))
      (λ b. byte_of (selectable 1 (configuration_of b))) refl (byte w j) (byte_small w j)

pub off_matching : (w j : ℕ) → j < 8 → bit_and w (24 * ONES) ≡ 0 → (configuration_of (byte w j)).matching ≡ Off
off_matching w j near none =
    let zero : bit_and (byte w j) 24 ≡ 0 =
    sym (masked w (24 * ONES) 24 j near (of_eight (λ k. byte (24 * ONES) k ≡ 24) refl refl refl refl refl refl refl refl))
    ∙ ap (λ n. byte n j) none ∙ zero_byte j near in
    let field : byte w j / 8 % 4 * 8 ≡ 0 =
    sym (by_trying (λ b. bit_and b 24) (λ b. b / 8 % 4 * 8) refl (byte w j) (byte_small w j)) ∙ zero in
    let is : byte w j / 8 % 4 ≡ 0 = omega arith in
    rw is refl

-- the bytes below the lowest one of these bits
pub off_below : (w j : ℕ) → j < trailing_zeros w64 (bit_and w (24 * ONES)) / 8 → (configuration_of (byte w j)).matching ≡ Off
off_below w j below =
    let n = bit_and w (24 * ONES) in
    let most : trailing_zeros w64 n ≤ 64 = trailing_le 64 n in
    let near : j < 8 = omega (arith, most, below) in
    elim (cases_eq n 0) [
      | inl none ↦ off_matching w j near none
      | inr some ↦
          let bits = bit_at-trailing_zeros w64 n (omega (arith, some)) (omega (arith, and_le_r w (24 * ONES))) in
          let b = byte w j in
          let at : n / 2 ^ (8 * j) % 256 ≡ bit_and b 24 = sym (byte_is n j near) ∙ masked w (24 * ONES) 24 j near ones in
          let low : n / 2 ^ (8 * j + 3) % 2 ≡ 0 = bits.2 (8 * j + 3) (omega (arith, below)) in
          let high : n / 2 ^ (8 * j + 4) % 2 ≡ 0 = bits.2 (8 * j + 4) (omega (arith, below)) in
          let x = n / 2 ^ (8 * j) in
          let three : x / 8 % 2 ≡ 0 = ap (λ k. k % 2) (shr-shr n (8 * j) 3) ∙ low in
          let four : x / 16 % 2 ≡ 0 = ap (λ k. k % 2) (shr-shr n (8 * j) 4) ∙ high in
          let field : bit_and b 24 / 8 % 4 ≡ 0 = omega (arith, three, four, at) in
          let is : b / 8 % 4 ≡ 0 =
          sym (by_trying (λ b. bit_and b 24 / 8 % 4) (λ b. b / 8 % 4) refl b (byte_small w j)) ∙ field in
          rw is refl
    ]
  where
    ones : (k : ℕ) → k < 8 → byte (24 * ONES) k ≡ 24
    ones = of_eight (λ k. byte (24 * ONES) k ≡ 24) refl refl refl refl refl refl refl refl

-- ---- of two configurations one is stored

pub byte_if : (p : Bool) (one other : Configuration) → cond p (byte_of one) (byte_of other) ≡ byte_of (cond p one other)
byte_if true one other = refl
byte_if false one other = refl

module _ (locked rlb : Bool) (one other : Configuration) where
  pub bypassed : rlb ≡ true → other ≡ cond (locked && not rlb) one other
  bypassed is = search (rules, tests)

  pub unbypassed : rlb ≡ false → cond locked one other ≡ cond (locked && not rlb) one other
  unbypassed is = search (rules, tests)
