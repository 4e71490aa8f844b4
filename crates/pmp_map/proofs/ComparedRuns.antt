-- Ranges of bytes of which two register files say the same, while they are found.
use borrow.Author.Tests.{tests}
use Rattle.std.proofs.Common.{◌≡◌, ◌∙◌, sym, refl, ap₂, ℕ, ◌+◌, ◌≤◌, List, [], ◌∷◌, ◌++◌, arith, inl, inr, rules}
use Rattle.std.proofs.lemmas.Bool.{cases_lt}
use Rattle.pmp_core.specs.declared.access.TheConstants.{ADDRESS_LIMIT}
use Rattle.pmp_core.specs.RegisterFile.{RegisterFile}
use Rattle.pmp_core.proofs.Decisions.{least_once}
use Rattle.pmp_map.specs.declared.compared.Aspect.{Aspect}
use Rattle.pmp_map.specs.declared.compared.Compared.{Compared}
use Rattle.pmp_map.specs.declared.compared_run.ComparedRun.{ComparedRun}
use Rattle.pmp_map.specs.ComparedRuns.{AreComparedRunsFrom, IsCompared, IsComparedRun}

-- two runs of the same fields
same_fields : (one other : ComparedRun) → one.first ≡ other.first → one.last ≡ other.last → one.both ≡ other.both
    → one ≡ other
same_fields one other first last both = search rules

module _ (aspect : Aspect) (old new : RegisterFile) where
  -- the files say one thing of a byte
  pub once : (byte : ℕ) (one other : Compared) → IsCompared aspect old new byte one → IsCompared aspect old new byte other
      → one ≡ other
  once byte one other here there = search (rules, tests, least_once)

  -- the files say of each byte what the run says
  abbrev pub AreComparedTo : ComparedRun → Type 0
  AreComparedTo run = (byte : ℕ) → run.first ≤ byte → byte ≤ run.last → IsCompared aspect old new byte run.both

  -- a run grows by the bytes behind it of which they say the same
  pub grown : (run next : ComparedRun) → AreComparedTo run → AreComparedTo next → next.first ≡ run.last + 1
      → next.both ≡ run.both → AreComparedTo (record run { last = next.last })
  grown run next are more follows same byte from to = search (rules, tests)

  -- one run more
  pub one_run_more : (first end : ℕ) (runs : List ComparedRun) (run : ComparedRun)
      → AreComparedRunsFrom aspect old new first end runs → run.first ≡ end → IsComparedRun aspect old new run
      → AreComparedRunsFrom aspect old new first (run.last + 1) (runs ++ run ∷ [])
  one_run_more first end [] run are begins is = (begins ∙ sym are, is, refl)
  one_run_more first end (one ∷ runs) run are begins is =
      (are.0, are.1, one_run_more (one.last + 1) end runs run are.2 begins is)

  -- a run ends no sooner than another that begins with it
  not_sooner : (one other : ComparedRun) → IsComparedRun aspect old new one → IsComparedRun aspect old new other
      → one.first ≡ other.first → other.last ≤ one.last
  not_sooner one other p q begin = elim (cases_lt one.last other.last) [
    | inr le ↦ le
    | inl sooner ↦
        let here = p.both one.first (omega arith) p.proper in
        let there = q.both one.first (omega (arith, begin)) (omega (arith, begin, p.proper)) in
        let same : other.both ≡ one.both = once one.first other.both one.both there here in
        let next = q.both (one.last + 1) (omega (arith, begin, p.proper)) (omega arith) in
        absurd (p.longest (omega (arith, q.below)) (rw same at next))
  ]

  same_run : (one other : ComparedRun) → IsComparedRun aspect old new one → IsComparedRun aspect old new other
      → one.first ≡ other.first → one ≡ other
  same_run one other p q begin =
      let here = p.both one.first (omega arith) p.proper in
      let there = q.both one.first (omega (arith, begin)) (omega (arith, begin, q.proper)) in
      same_fields one other begin
      (omega (arith, not_sooner one other p q begin, not_sooner other one q p (sym begin)))
      (once one.first one.both other.both here there)

  -- there is one list of them
  pub one_list : (first end : ℕ) (one other : List ComparedRun) → AreComparedRunsFrom aspect old new first end one
      → AreComparedRunsFrom aspect old new first end other → end ≡ ADDRESS_LIMIT → one ≡ other
  one_list first end [] [] p q whole = refl
  one_list first end [] (run ∷ other) p q whole =
      absurd (omega (arith, p, whole, q.0, q.1.proper, q.1.below))
  one_list first end (run ∷ one) [] p q whole =
      absurd (omega (arith, q, whole, p.0, p.1.proper, p.1.below))
  one_list first end (run ∷ one) (next ∷ other) p q whole =
      let same : run ≡ next = same_run run next p.1 q.1 (p.0 ∙ sym q.0) in
      let rest = one_list (run.last + 1) end one other p.2 (rw (← same) at q.2) whole in
      ap₂ (λ (r : ComparedRun) (l : List ComparedRun). r ∷ l) same rest
