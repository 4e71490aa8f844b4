-- A flag of a set is a bit of its number.
use borrow.Author.Tests.{tests}
use Rattle.std.proofs.Common.{rules, ◌≡◌, ℕ, ◌*◌, ◌/◌, ◌%◌, ◌^◌, ◌<◌, eqb}
use Rattle.std.specs.Int.RustNames.{bit_and}
use Rattle.std.proofs.lemmas.Nat.{pow_pos}
use Rattle.std.proofs.lemmas.Nat.Bits.{and_pow}
use Rattle.pmp_core.specs.declared.access.Kind.{Kind}
use Rattle.pmp_core.specs.declared.access.Kind.TheVariants.{Fetch, Load, Store}
use Rattle.pmp_core.specs.Perms.{right_of}

bit_test : (b p : ℕ) → b < 2 → 0 < p → eqb (b * p) p ≡ eqb b 1
bit_test b p low high = search rules

pub flag_is_bit : (n k : ℕ) → eqb (bit_and n (2 ^ k)) (2 ^ k) ≡ eqb (n / 2 ^ k % 2) 1
flag_is_bit n k = search (rules, tests, and_pow, bit_test, pow_pos)

-- the right that a kind of access needs is one bit of the set
pub right_is_bit : (n : ℕ) (kind : Kind) → eqb (bit_and n (right_of kind).0) (right_of kind).0
    ≡ eqb (n / (right_of kind).0 % 2) 1
right_is_bit n Load = flag_is_bit n 0
right_is_bit n Store = flag_is_bit n 1
right_is_bit n Fetch = flag_is_bit n 2
