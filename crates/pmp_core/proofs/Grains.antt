-- Addresses by the grain.
use borrow.Author.Tests.{tests}
use Rattle.std.proofs.Common.{rules, ◌≡◌, ℕ, ◌+◌, ◌-◌, ◌*◌, ◌/◌, ◌^◌, ◌<◌, ◌≤◌, false, nat_lt}
use Rattle.std.proofs.Common.{refl, sym, ap, ◌∙◌, arith}
use Rattle.std.proofs.Math.Nat.{div-eq_of_lt, div-lt_iff_lt-mul, div-mul-le_self, mul-add-div_right, mul-div_cancel}
use Rattle.std.proofs.Math.Nat.{mul-le-mul_right}
use Rattle.std.proofs.Math.Pow.{pow_pos}
use Rattle.std.proofs.lemmas.Bool.{and_right}
use Rattle.std.proofs.lemmas.Nat.{pow-add}
use Rattle.pmp_core.specs.declared.configuration.AddressMatching.{AddressMatching}
use Rattle.pmp_core.specs.declared.configuration.AddressMatching.TheVariants.{Off, Tor, Na4, Napot}
use Rattle.pmp_core.specs.declared.register_write.TheConstants.{WORD_ADDRESSES}
use Rattle.pmp_core.specs.Configuration.{Configuration}
use Rattle.pmp_core.specs.Grain.{is_na4, napot_address, read_address, selectable, tor_address}

-- ---- addresses

-- below a power of two that the ones divide
pub napot_within : (grain n address : ℕ) → grain - 1 ≤ n → address < 2 ^ n → napot_address grain address < 2 ^ n
napot_within grain n address fits small =
    let k = grain - 1 in
    let parts : n - k + k ≡ n = omega arith in
    let whole : 2 ^ n ≡ 2 ^ (n - k) * 2 ^ k = sym (ap (λ (m : ℕ). 2 ^ m) parts) ∙ pow-add 2 (n - k) k in
    let below : address / 2 ^ k < 2 ^ (n - k) = (div-lt_iff_lt-mul (pow_pos k)).1 (rw whole at small) in
    let room : (address / 2 ^ k + 1) * 2 ^ k ≤ 2 ^ (n - k) * 2 ^ k = mul-le-mul_right (2 ^ k) (omega (arith, below)) in
    omega (arith, whole, room, pow_pos k)

pub napot_below : (grain address : ℕ) → grain ≤ 10 → address < WORD_ADDRESSES
    → napot_address grain address < WORD_ADDRESSES
napot_below grain address fine small = napot_within grain 54 address (omega arith) small

pub tor_most : (grain address : ℕ) → tor_address grain address ≤ address
tor_most grain address = div-mul-le_self address (2 ^ grain)

-- what is read is read of it again
tor_again : (grain address : ℕ) → tor_address grain (tor_address grain address) ≡ tor_address grain address
tor_again grain address = ap (λ (q : ℕ). q * 2 ^ grain) (mul-div_cancel (address / 2 ^ grain) (pow_pos grain))

napot_again : (grain address : ℕ) → napot_address grain (napot_address grain address) ≡ napot_address grain address
napot_again grain address = search (rules, tests, pow_pos, div-eq_of_lt, mul-add-div_right)

pub read_again : (grain : ℕ) (matching : AddressMatching) (address : ℕ)
    → read_address grain matching (read_address grain matching address) ≡ read_address grain matching address
read_again grain matching address = search (rules, tor_again, napot_again)

pub read_within : (grain n : ℕ) (matching : AddressMatching) (address : ℕ) → grain - 1 ≤ n → address < 2 ^ n
    → read_address grain matching address < 2 ^ n
read_within grain n Off address fits small = omega (arith, tor_most grain address)
read_within grain n Tor address fits small = omega (arith, tor_most grain address)
read_within grain n Na4 address fits small = small
read_within grain n Napot address fits small = napot_within grain n address fits small

-- ---- configurations

-- a mode other than NA4 can be chosen
pub selectable_other : (grain : ℕ) (c : Configuration) → is_na4 c.matching ≡ false → selectable grain c ≡ c
selectable_other grain c other = rw (and_right (nat_lt 0 grain) (is_na4 c.matching) other) refl
