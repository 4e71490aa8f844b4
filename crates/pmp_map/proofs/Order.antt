-- Runs follow one another upwards.
use Rattle.std.proofs.Common.{◌≡◌, ℕ, zero, suc, ◌+◌, ◌-◌, ◌<◌, ◌≤◌, List, length, Option, ap, arith, inl, inr}
use Rattle.std.proofs.Common.{add-zero, rules}
use Rattle.std.proofs.lemmas.Bool.{cases_lt}
use Rattle.std.proofs.lemmas.List.{get_or_past}
use Rattle.pmp_map.specs.declared.run.Run.{Run}
use Rattle.pmp_map.specs.Runs.{IsInRun, run_at, AreRunsTo}

-- where run k begins; past the last, `to`
abbrev pub start_at : (to : ℕ) → List Run → ℕ → ℕ
start_at to runs k = (run_at to runs k).first

pub start_past : (to : ℕ) (runs : List Run) (k : ℕ) → length runs ≤ k → start_at to runs k ≡ to
start_past to runs k past = ap (λ (run : Run). run.first) (get_or_past runs k _ past)

module _ (to : ℕ) (Owns : ℕ → Option ℕ → Type 0) (runs : List Run) (are : AreRunsTo to Owns runs) where
  pub start_rises : (k : ℕ) → k < length runs → start_at to runs k < start_at to runs (k + 1)
  start_rises k inside = omega (arith, are.proper k inside, are.gapless k inside)

  starts_rise_by : (k d : ℕ) → k + d ≤ length runs → start_at to runs k ≤ start_at to runs (k + d)
  starts_rise_by k zero inside = let same : k + 0 ≡ k = omega arith in rw same (omega arith)
  starts_rise_by k (suc d) inside =
      let same : k + suc d ≡ k + d + 1 = omega arith in
      rw same (omega (arith, starts_rise_by k d (omega arith), start_rises (k + d) (omega arith)))

  pub starts_rise : (j k : ℕ) → j ≤ k → k ≤ length runs → start_at to runs j ≤ start_at to runs k
  starts_rise j k below inside = let same : j + (k - j) ≡ k = omega arith in
      rw same at (starts_rise_by j (k - j) (omega arith))

  pub start_below : (k : ℕ) → k < length runs → start_at to runs k < to
  start_below k inside = omega (
    arith,
    start_rises k inside,
    starts_rise (k + 1) (length runs) (omega arith) (omega arith),
    start_past to runs (length runs) (omega arith),
  )

  pub start_most : (k : ℕ) → start_at to runs k ≤ to
  start_most k = search (rules, start_below, start_past)

  pub in_run : (k byte : ℕ) → k < length runs → start_at to runs k ≤ byte → byte < start_at to runs (k + 1)
      → IsInRun (run_at to runs k) byte
  in_run k byte inside from below = (from, omega (arith, are.gapless k inside))

  pub run_before : (k byte : ℕ) → k < length runs → IsInRun (run_at to runs k) byte → byte < start_at to runs (k + 1)
  run_before k byte inside here = omega (arith, are.gapless k inside, here.1)

  -- each byte from run p on is in a run
  run_between : (byte p d : ℕ) → p + d ≤ length runs → start_at to runs p ≤ byte → byte < start_at to runs (p + d)
      → (k : ℕ) × (p ≤ k) × (k < p + d) × IsInRun (run_at to runs k) byte
  run_between byte p zero inside from below = let same = rw add-zero at below in absurd (omega arith)
  run_between byte p (suc d) inside from below = elim (cases_lt byte (start_at to runs (p + d))) [
    | inl before ↦ let found = run_between byte p d (omega arith) from before in
        (found.0, found.1, omega (arith, found.2), found.3)
    | inr after ↦ let same : p + suc d ≡ p + d + 1 = omega arith in
        (p + d, omega arith, omega arith, in_run (p + d) byte (omega arith) after (rw same at below))
  ]

  pub run_among : (byte p q : ℕ) → p ≤ q → q < length runs → start_at to runs p ≤ byte → byte < start_at to runs (q + 1)
      → (k : ℕ) × (p ≤ k) × (k ≤ q) × IsInRun (run_at to runs k) byte
  run_among byte p q ordered inside from below =
      let same : p + (q + 1 - p) ≡ q + 1 = omega arith in
      let found = run_between byte p (q + 1 - p) (omega arith) from (rw same below) in
      (found.0, found.1, omega (arith, found.2), found.3)
