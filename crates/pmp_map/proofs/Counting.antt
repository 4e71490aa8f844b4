-- The place of a byte among six that lie a stride apart, by counting those whose start is at or below it.
use borrow.Author.Tests.{tests}
use mir.Val.{bool_byte}
use Rattle.std.proofs.Common.{nat_le, ◌≡◌, ℕ, ◌+◌, ◌*◌, ◌<◌, ◌≤◌, List, slice_index, arith, rules}
use Rattle.std.proofs.Math.Nat.{mul-le-mul_left}
use Rattle.pmp_map.specs.declared.search.TheConstants.{PLACES}
use Rattle.pmp_map.specs.Search.{IsRising, IsBetween}

-- one where the start is at or below the byte, and else zero
pub record Passed (start byte passed : ℕ) : Type 0 where
  pub most : passed ≤ 1
  pub from : start ≤ byte → passed ≡ 1
  pub below : byte < start → passed ≡ 0

pub passed_is : (start byte passed : ℕ) → passed ≡ bool_byte (nat_le start byte) → Passed start byte passed
passed_is start byte passed is = search (rules, tests)

-- the place that five tests give
pub counted_inside : (low stride count places : ℕ) → count ≤ 5 → low + 6 * stride < places
    → low + stride * count + stride < places
counted_inside low stride count places few inside = omega (arith, mul-le-mul_left stride few)

module _ (starts : List ℕ) (byte low stride : ℕ) (inside : low + 6 * stride < PLACES) (rising : IsRising starts)
    (between : IsBetween starts byte low (6 * stride)) where
  abbrev start_of : ℕ → ℕ
  start_of k = slice_index starts (low + stride * k)

  -- after n tests: so many starts were at or below the byte, and these are the first
  record Reached (n count : ℕ) : Type 0 where
    pub most : count ≤ n
    pub from : start_of count ≤ byte
    pub to : count < n → byte < start_of (count + 1)

  starts_rise : (i j : ℕ) → i ≤ j → j ≤ 5 → start_of i ≤ start_of j
  starts_rise i j ordered few = search (rules, mul-le-mul_left)

  none_yet : Reached 0 0
  none_yet = search rules

  one_more : (n count passed : ℕ) → n < 5 → Reached n count → Passed (start_of (n + 1)) byte passed
      → Reached (n + 1) (count + passed)
  one_more n count passed few so_far test = search (rules, starts_rise)

  all_tested : (count : ℕ) → Reached 5 count → IsBetween starts byte (low + stride * count) stride
  all_tested count done = search rules

  pub counted : (a b c d e : ℕ) → Passed (slice_index starts (low + stride)) byte a
      → Passed (slice_index starts (low + 2 * stride)) byte b → Passed (slice_index starts (low + 3 * stride)) byte c
      → Passed (slice_index starts (low + 4 * stride)) byte d → Passed (slice_index starts (low + 5 * stride)) byte e
      → IsBetween starts byte (low + stride * (a + b + c + d + e)) stride
  counted a b c d e p q r s t =
      let one : low + stride * (0 + 1) ≡ low + stride = omega arith in
      let two : low + stride * (1 + 1) ≡ low + 2 * stride = omega arith in
      let three : low + stride * (2 + 1) ≡ low + 3 * stride = omega arith in
      let four : low + stride * (3 + 1) ≡ low + 4 * stride = omega arith in
      let five : low + stride * (4 + 1) ≡ low + 5 * stride = omega arith in
      let alone : 0 + a ≡ a = omega arith in
      let first = rw alone at (one_more 0 0 a (omega arith) none_yet (rw one p)) in
      let second = one_more 1 a b (omega arith) first (rw two q) in
      let third = one_more 2 (a + b) c (omega arith) second (rw three r) in
      let fourth = one_more 3 (a + b + c) d (omega arith) third (rw four s) in
      all_tested (a + b + c + d + e) (one_more 4 (a + b + c + d) e (omega arith) fourth (rw five t))
