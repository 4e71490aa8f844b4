-- Two bytes of one block of the grain.
use Rattle.std.proofs.lemmas.Bool.Decides.{nat_tests}
use Rattle.std.proofs.lemmas.Grind.{common_steps}
use borrow.Author.Tests.{tests}
use Rattle.std.proofs.Common.{rules, ◌≡◌, ℕ, ◌+◌, ◌-◌, ◌*◌, ◌/◌, ◌%◌, ◌^◌, ◌<◌, ◌≤◌, sym, ap, ◌∙◌, inl, inr}
use Rattle.std.proofs.Common.{arith}
use Rattle.std.proofs.Math.Nat.{div-lt_iff_lt-mul, le-div_iff_mul-le, mul-mod_left}
use Rattle.std.proofs.Math.Pow.{pow_pos}
use Rattle.std.proofs.lemmas.Bool.{cases_lt}
use Rattle.std.proofs.lemmas.Nat.{mod-mul-add, pow-add}
use Rattle.pmp_core.specs.Configuration.{Configuration}
use Rattle.pmp_core.specs.declared.configuration.AddressMatching.{AddressMatching}
use Rattle.pmp_core.specs.declared.configuration.AddressMatching.TheVariants.{Na4}
use Rattle.pmp_core.specs.Grain.{napot_address, selectable, tor_address}
use Rattle.pmp_core.specs.GrainLaw.{GrainLaw}
use Rattle.pmp_core.specs.Matching.{InNapot, MatchesBy}

-- an address of NAPOT ends in G-1 ones at least
enough_ones : (grain address k y : ℕ) → napot_address grain address ≡ y * 2 ^ (k + 1) + 2 ^ k - 1 → grain ≤ k + 1
enough_ones grain address k y spelled = elim (cases_lt (k + 1) grain) [
  | inr le ↦ le
  | inl lt ↦
      let unit = 2 ^ (k + 1) in
      let ones = 2 ^ (grain - 1) in
      let more = grain - 1 - (k + 1) in
      let parts : more + (k + 1) ≡ grain - 1 = omega arith in
      let whole : ones ≡ 2 ^ more * unit = sym (ap (λ (m : ℕ). 2 ^ m) parts) ∙ pow-add 2 more (k + 1) in
      let q = address / ones + 1 in
      let product : q * ones ≡ q * 2 ^ more * unit = omega (arith, ap (λ (p : ℕ). q * p) whole) in
      let same : q * 2 ^ more * unit ≡ y * unit + 2 ^ k =
      omega (arith, spelled, product, pow_pos (grain - 1), pow_pos k) in
      let short : 2 ^ k < unit = omega (arith, pow-add 2 k 1, pow_pos k) in
      let none : 0 ≡ 2 ^ k =
      sym (mul-mod_left (q * 2 ^ more) unit) ∙ ap (λ (n : ℕ). n % unit) same ∙ mod-mul-add y unit (2 ^ k) short in
      absurd (omega (arith, pow_pos k, none))
]

module _ (grain one other : ℕ) (same : one / 2 ^ (grain + 2) ≡ other / 2 ^ (grain + 2)) where
  from_alike : (q : ℕ) → q * 2 ^ (grain + 2) ≤ one → q * 2 ^ (grain + 2) ≤ other
  from_alike q h = search (rules, tests, le-div_iff_mul-le, pow_pos)

  below_alike : (q : ℕ) → one < q * 2 ^ (grain + 2) → other < q * 2 ^ (grain + 2)
  below_alike q h = search (rules, tests, div-lt_iff_lt-mul, pow_pos)

  -- the ends of a range are ends of blocks
  top_end : (address : ℕ) → 4 * tor_address grain address ≡ address / 2 ^ grain * 2 ^ (grain + 2)
  top_end address = omega (arith, ap (λ (p : ℕ). address / 2 ^ grain * p) (pow-add 2 grain 2))

  napot_end : (y k : ℕ) → grain ≤ k + 1 → y * 2 ^ (k + 3) ≡ y * 2 ^ (k + 1 - grain) * 2 ^ (grain + 2)
  napot_end y k coarse =
      let parts : k + 1 - grain + (grain + 2) ≡ k + 3 = omega arith in
      omega (
        arith,
        ap (λ (p : ℕ). y * p) (sym (ap (λ (m : ℕ). 2 ^ m) parts) ∙ pow-add 2 (k + 1 - grain) (grain + 2)),
      )

  napot_alike : (address : ℕ) → InNapot (napot_address grain address) one → InNapot (napot_address grain address) other
  napot_alike address h = search (rules, tests, enough_ones, napot_end, from_alike, below_alike)

  na4_alike : (address : ℕ) → grain ≡ 0 → (4 * address ≤ one) × (one < 4 * address + 4)
      → (4 * address ≤ other) × (other < 4 * address + 4)
  na4_alike address finest h = let four : one / 4 ≡ other / 4 = rw finest at same in (omega arith, omega arith)

  alike_by : (mode : AddressMatching) (low address : ℕ) → (mode ≡ Na4 → grain ≡ 0)
      → MatchesBy grain mode low address one → MatchesBy grain mode low address other
  alike_by mode low address finest h =
      grind (arith, nat_tests, common_steps, top_end, from_alike, below_alike, na4_alike, napot_alike)

-- NA4 can be chosen with the finest grain alone
na4_finest : (grain : ℕ) (c : Configuration) → selectable grain c ≡ c → c.matching ≡ Na4 → grain ≡ 0
na4_finest grain c chosen na4 = search rules

pub grain_law : GrainLaw
grain_law file legal one other same i = search (rules, tests, na4_finest, alike_by)
