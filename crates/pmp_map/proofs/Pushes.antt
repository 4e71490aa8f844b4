-- A list of runs with one run more.
use Rattle.std.proofs.Common.{◌≡◌, ◌≢◌, ℕ, ◌+◌, ◌<◌, ◌≤◌, List, [], ◌∷◌, ◌++◌, length, Option, sym, ◌∙◌, arith}
use Rattle.std.proofs.Common.{length-append, inl, inr, rules}
use Rattle.std.proofs.lemmas.Bool.{cases_lt}
use Rattle.std.proofs.lemmas.List.{get_or_default}
use Rattle.std.proofs.Math.ListN.{get_or-append}
use Rattle.std.proofs.Math.Seq.{get_or-append_seam}
use Rattle.pmp_map.specs.declared.run.Run.{Run}
use Rattle.pmp_map.specs.Runs.{IsInRun, run_at, AreRunsTo}
use Rattle.pmp_map.proofs.Order.{start_at, start_past}

module _ (to end : ℕ) (runs : List Run) (run : Run) where
  pub length_pushed : length (runs ++ run ∷ []) ≡ length runs + 1
  length_pushed = length-append runs (run ∷ [])

  pub old_run : (k : ℕ) → k < length runs → run_at end (runs ++ run ∷ []) k ≡ run_at to runs k
  old_run k inside = get_or-append runs (run ∷ []) _ k inside ∙ get_or_default runs k _ _ inside

  pub new_run : (k : ℕ) → k ≡ length runs → run_at end (runs ++ run ∷ []) k ≡ run
  new_run k here = rw here (get_or-append_seam runs run [] _)

  pub old_start : run.first ≡ to → (k : ℕ) → k ≤ length runs → start_at end (runs ++ run ∷ []) k ≡ start_at to runs k
  old_start begin k inside = search (rules, old_run, new_run, start_past)

  new_start : (k : ℕ) → length runs < k → start_at end (runs ++ run ∷ []) k ≡ end
  new_start k past = start_past end (runs ++ run ∷ []) k (omega (arith, length_pushed))

-- a run from `to` on, with another owner than the last
pub record IsNextRun (to : ℕ) (Owns : ℕ → Option ℕ → Type 0) (runs : List Run) (run : Run) : Type 0 where
  pub begins : run.first ≡ to
  pub proper : run.first ≤ run.last
  pub owned : (byte : ℕ) → IsInRun run byte → Owns byte run.owner
  pub apart : (k : ℕ) → k + 1 ≡ length runs → (run_at to runs k).owner ≢ run.owner

module _ (to : ℕ) (Owns : ℕ → Option ℕ
    → Type 0) (runs : List Run) (run : Run) (are : AreRunsTo to Owns runs) (next : IsNextRun to Owns runs run) where
  pub pushed : (end : ℕ) → run.last + 1 ≡ end → AreRunsTo end Owns (runs ++ run ∷ [])
  pushed end ends = record {
    begins = old_start to end runs run next.begins 0 (omega arith) ∙ are.begins;
    proper = λ k inside. elim (cases_lt k (length runs)) [
      | inl lt ↦ rw (old_run to end runs run k lt) (are.proper k lt)
      | inr le ↦ rw (new_run to end runs run k (omega (arith, length_pushed to end runs run))) next.proper
    ];
    gapless = λ k inside. elim (cases_lt k (length runs)) [
      | inl lt ↦ rw (old_run to end runs run k lt) (are.gapless k lt
          ∙ sym (old_start to end runs run next.begins (k + 1) (omega arith)))
      | inr le ↦
          rw (new_run to end runs run k (omega (arith, length_pushed to end runs run))) (ends
          ∙ sym (new_start to end runs run (k + 1) (omega arith)))
    ];
    owned = λ k byte inside. elim (cases_lt k (length runs)) [
      | inl lt ↦ rw (old_run to end runs run k lt) (are.owned k byte lt)
      | inr le ↦ rw (new_run to end runs run k (omega (arith, length_pushed to end runs run))) (next.owned byte)
    ];
    apart = λ k inside. elim (cases_lt (k + 1) (length runs)) [
      | inl lt ↦ rw (old_run to end runs run k (omega arith), old_run to end runs run (k + 1) lt) (are.apart k lt)
      | inr le ↦
          let last : k + 1 ≡ length runs = omega (arith, length_pushed to end runs run) in
          rw (old_run to end runs run k (omega arith), new_run to end runs run (k + 1) last) (next.apart k last)
    ];
  }

  pub last_pushed : (end k : ℕ) → k + 1 ≡ length (runs ++ run ∷ []) → run_at end (runs ++ run ∷ []) k ≡ run
  last_pushed end k last = new_run to end runs run k (omega (arith, length_pushed to end runs run))
