-- Where each byte has one owner, there is one list of runs.
use Rattle.std.proofs.Common.{◌≡◌, ℕ, zero, suc, ◌+◌, ◌<◌, ◌≤◌, List, length, Option, sym, ap, ◌∙◌, arith, add-one, inl}
use Rattle.std.proofs.Common.{inr, rules}
use Rattle.std.proofs.lemmas.Bool.{cases_lt}
use Rattle.std.proofs.lemmas.List.{get_or_default, same_lists}
use Rattle.pmp_core.specs.RegisterFile.{RegisterFile}
use Rattle.pmp_core.specs.declared.access.TheConstants.{ADDRESS_LIMIT}
use Rattle.pmp_core.specs.Decision.{IsOwner}
use Rattle.pmp_core.specs.Matching.{Matches}
use Rattle.pmp_core.proofs.Decisions.{least_once}
use Rattle.pmp_map.specs.declared.run.Run.{Run}
use Rattle.pmp_map.specs.Runs.{run_at, AreRunsTo, AreRuns}
use Rattle.pmp_map.proofs.Order.{start_at, start_past, starts_rise, start_below}

-- two runs of the same fields
same_fields : (run other : Run) → run.first ≡ other.first → run.last ≡ other.last → run.owner ≡ other.owner
    → run ≡ other
same_fields run other first last owner = search rules

module _ (to : ℕ) (Owns : ℕ → Option ℕ → Type 0) (once : (byte : ℕ) (one other : Option ℕ) → Owns byte one
    → Owns byte other → one ≡ other) where
  -- a run ends no sooner than the other list's run that begins with it
  not_sooner : (one other : List Run) → AreRunsTo to Owns one → AreRunsTo to Owns other → (k : ℕ) → k < length one
      → k < length other
      → start_at to one k ≡ start_at to other k → (run_at to one k).owner ≡ (run_at to other k).owner
      → (run_at to other k).last ≤ (run_at to one k).last
  not_sooner one other p q k inside within begin owner =
      elim (cases_lt (run_at to one k).last (run_at to other k).last) [
        | inr le ↦ le
        | inl sooner ↦
            let next = start_at to one (k + 1) in
            let end : next ≤ (run_at to other k).last = omega (arith, p.gapless k inside) in
            let below : next < to = omega (
              arith,
              q.gapless k within,
              starts_rise to Owns other q (k + 1) (length other) (omega arith) (omega arith),
              start_past to other (length other) (omega arith),
            ) in
            let more : k + 1 < length one = elim (cases_lt (k + 1) (length one)) [
              | inl lt ↦ lt
              | inr past ↦
                  absurd (omega (arith, start_past to one (k + 1) past))
            ] in
            let here = p.owned (k + 1) next more (omega arith, p.proper (k + 1) more) in
            let there = q.owned k next within (omega (arith, p.gapless k inside, p.proper k inside), end) in
            absurd (p.apart k more (owner ∙ sym (once next (run_at to one (k + 1)).owner (run_at to other k).owner here
            there)))
      ]

  module _ (one other : List Run) (p : AreRunsTo to Owns one) (q : AreRunsTo to Owns other) where
    same_run : (k : ℕ) → k < length one → k < length other → start_at to one k ≡ start_at to other k
        → run_at to one k ≡ run_at to other k
    same_run k inside within begin =
        let first = start_at to one k in
        let here = p.owned k first inside (omega arith, p.proper k inside) in
        let there = q.owned k first within (omega (arith, begin), omega (arith, begin, q.proper k within)) in
        let owner = once first (run_at to one k).owner (run_at to other k).owner here there in
        let least = not_sooner one other p q k inside within begin owner in
        let most = not_sooner other one q p k within inside (sym begin) (sym owner) in
        same_fields (run_at to one k) (run_at to other k) begin (omega (arith, least, most)) owner

    same_starts : (k : ℕ) → k ≤ length one → k ≤ length other → start_at to one k ≡ start_at to other k
    same_starts zero inside within = p.begins ∙ sym q.begins
    same_starts (suc k) inside within =
        let last = ap (λ (run : Run). run.last) (same_run k (omega arith) (omega arith)
        (same_starts k (omega arith) (omega arith))) in
        rw (← add-one) (omega (arith, last, p.gapless k (omega arith), q.gapless k (omega arith)))

    not_longer : length one ≤ length other → length other ≤ length one
    not_longer short = elim (cases_lt (length one) (length other)) [
      | inr le ↦ le
      | inl more ↦ absurd (omega (
        arith,
        start_past to one (length one) (omega arith),
        same_starts (length one) (omega arith) (omega arith),
        start_below to Owns other q (length one) more,
      ))
    ]

  same_length : (one other : List Run) → AreRunsTo to Owns one → AreRunsTo to Owns other → length one ≡ length other
  same_length one other p q = search (rules, not_longer)

  one_list : (one other : List Run) → AreRunsTo to Owns one → AreRunsTo to Owns other → one ≡ other
  one_list one other p q =
      let lengths = same_length one other p q in
      same_lists one other lengths (λ k d inside.
      get_or_default one k d _ inside
      ∙ same_run one other p q k inside (omega arith) (same_starts one other p q k (omega arith) (omega arith))
      ∙ sym (get_or_default other k d _ (omega arith)))

-- a register file has one list of runs
pub one_list_of_runs : (file : RegisterFile) (one other : List Run) → AreRuns file one → AreRuns file other
    → one ≡ other
one_list_of_runs file = one_list ADDRESS_LIMIT (IsOwner file) (λ byte. least_once (λ i. Matches file i byte))
