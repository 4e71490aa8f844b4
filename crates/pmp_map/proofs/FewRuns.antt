-- Owners change at cuts, the ends of ranges, of which each range has two. So there are few runs.
use Rattle.std.proofs.Common.{◌≡◌, ◌≢◌, ℕ, zero, suc, ◌+◌, ◌-◌, ◌*◌, ◌<◌, ◌≤◌, ◌⊎◌, cond, List, [], ◌∷◌, length, Option}
use Rattle.std.proofs.Common.{Some, None, nat_le, refl, ap, arith, add-one, inl, inr, rules}
use Rattle.std.proofs.lemmas.Bool.Decides.{nat_tests}
use Rattle.std.proofs.lemmas.Bool.{cases_lt}
use Rattle.pmp_core.specs.declared.range.ByteRange.{ByteRange}
use Rattle.pmp_core.specs.Decision.{IsLeast}
use Rattle.pmp_core.specs.Ranges.{IsInRange, range_in}
use Rattle.pmp_map.specs.declared.run.Run.{Run}
use Rattle.pmp_map.specs.Runs.{run_at, AreRunsTo}
use Rattle.pmp_map.proofs.Order.{start_at}

-- the lowest-numbered of these ranges that has the byte
abbrev pub IsOwnerAmong : List ByteRange → (byte : ℕ) → Option ℕ → Type 0
IsOwnerAmong ranges byte = IsLeast (λ i. IsInRange (range_in ranges i) byte)

-- ---- where owners change

abbrev pub IsCut : ByteRange → ℕ → Type 0
IsCut range at = (range.start ≡ at) ⊎ (range.end ≡ at)

entered : (range : ByteRange) (byte : ℕ) → ¬ (IsInRange range byte) → IsInRange range (byte + 1)
    → IsCut range (byte + 1)
entered range byte out inside = search rules

left : (range : ByteRange) (byte : ℕ) → IsInRange range byte → ¬ (IsInRange range (byte + 1)) → IsCut range (byte + 1)
left range byte inside out = search rules

module _ (ranges : List ByteRange) (byte : ℕ) where
  changed : (one other : Option ℕ) → IsOwnerAmong ranges byte one → IsOwnerAmong ranges (byte + 1) other → one ≢ other
      → (i : ℕ) × IsCut (range_in ranges i) (byte + 1)
  changed None None p q apart = absurd (apart refl)
  changed None (Some j) p q apart = (j, entered (range_in ranges j) byte (p j) q.0)
  changed (Some i) None p q apart = (i, left (range_in ranges i) byte p.0 (q i))
  changed (Some i) (Some j) p q apart = elim (cases_lt i j) [
    | inl lt ↦ (i, left (range_in ranges i) byte p.0 (q.1 i lt))
    | inr le ↦ elim (cases_lt j i) [
      | inl lt ↦ (j, entered (range_in ranges j) byte (p.1 j lt) q.0)
      | inr ge ↦ absurd (apart (ap Some (omega arith)))
    ]
  ]

-- ---- how many cuts there are

-- whether the cut is at or below the byte
abbrev passed : (byte cut : ℕ) → ℕ
passed byte cut = cond (nat_le cut byte) 1 0

-- how many ends of ranges are
cuts_passed : (byte : ℕ) → List ByteRange → ℕ
cuts_passed byte [] = 0
cuts_passed byte (range ∷ ranges) = passed byte range.start + passed byte range.end + cuts_passed byte ranges

cuts_at_most : (byte : ℕ) (ranges : List ByteRange) → cuts_passed byte ranges ≤ 2 * length ranges
unfolding cuts_passed
cuts_at_most byte [] = omega arith
cuts_at_most byte (range ∷ ranges) = grind (arith, nat_tests, cuts_at_most byte ranges)

cuts_rise : (byte later : ℕ) (ranges : List ByteRange) → byte ≤ later
    → cuts_passed byte ranges ≤ cuts_passed later ranges
unfolding cuts_passed
cuts_rise byte later [] after = omega arith
cuts_rise byte later (range ∷ ranges) after = grind (arith, nat_tests, cuts_rise byte later ranges)

-- one more is passed at a cut
one_more : (byte later : ℕ) (ranges : List ByteRange) (i : ℕ) → byte < later → IsCut (range_in ranges i) later
    → cuts_passed byte ranges + 1 ≤ cuts_passed later ranges
unfolding cuts_passed
one_more byte later [] i after at = search rules
one_more byte later (range ∷ ranges) zero after at = grind (arith, nat_tests, cuts_rise byte later ranges)
one_more byte later (range ∷ ranges) (suc i) after at = grind (arith, nat_tests, one_more byte later ranges i after at)

-- ---- each run but the first begins at a cut

module _ (to : ℕ) (ranges : List ByteRange) (runs : List Run) (are : AreRunsTo to (IsOwnerAmong ranges) runs) where
  ranked : (k : ℕ) → k < length runs → k ≤ cuts_passed (start_at to runs k) ranges
  ranked zero inside = omega arith
  ranked (suc k) inside =
      let within : k + 1 < length runs = omega arith in
      let run = run_at to runs k in
      let next = run_at to runs (k + 1) in
      let meet : run.last + 1 ≡ next.first = are.gapless k (omega arith) in
      let here = are.owned k run.last (omega arith) (are.proper k (omega arith), omega arith) in
      let there = are.owned (k + 1) (run.last + 1) within (
        omega (arith, meet),
        omega (arith, meet, are.proper (k + 1) within),
      ) in
      let cut = changed ranges run.last run.owner next.owner here there (are.apart k within) in
      let rises : start_at to runs k < run.last + 1 = omega (arith, are.proper k (omega arith)) in
      let more = one_more (start_at to runs k) (run.last + 1) ranges cut.0 rises cut.1 in
      let bound : k + 1 ≤ cuts_passed (run.last + 1) ranges = omega (arith, ranked k (omega arith), more) in
      let next_bound : k + 1 ≤ cuts_passed next.first ranges = rw meet at bound in
      rw (← add-one) next_bound

  pub few_runs : length runs ≤ 2 * length ranges + 1
  few_runs = elim (cases_lt 0 (length runs)) [
    | inl some ↦ omega (
      arith,
      ranked (length runs - 1) (omega arith),
      cuts_at_most (start_at to runs (length runs - 1)) ranges,
    )
    | inr none ↦ omega arith
  ]
