-- The decisions of an access moment by moment.
use Rattle.std.proofs.Common.{◌≡◌, ◌≢◌, ◌∙◌, sym, refl, ap, subst, ℕ, ◌+◌, ◌-◌, ◌<◌, ◌≤◌, List, [], ◌∷◌, ◌++◌, length, arith, inl, inr}
use Rattle.std.proofs.lemmas.Bool.{cases_lt}
use Rattle.pmp_core.specs.declared.access.Access.{Access}
use Rattle.pmp_core.specs.declared.decision.Decision.{Decision}
use Rattle.pmp_text.specs.Contents.{ScriptContents}
use Rattle.pmp_lint.specs.declared.answer_run.AnswerRun.{AnswerRun}
use Rattle.pmp_lint.specs.Why.{AreAnswerRuns, AreAnswerRunsFrom, IsAnswerRun, IsSince, decided_at}

module _ (script : ScriptContents) (access : Access) where
  -- at each moment of these the access is decided so
  abbrev pub IsSo : (first last : ℕ) → Decision → Type 0
  IsSo first last decision = (k : ℕ) → first ≤ k → k ≤ last → decided_at script k access ≡ decision

  so_more : (first last : ℕ) (decision : Decision) → IsSo first last decision
      → decided_at script (last + 1) access ≡ decision → IsSo first (last + 1) decision
  so_more first last decision are next k from to = elim (cases_lt k (last + 1)) [
    | inl below ↦ are k from (omega (arith, below))
    | inr le ↦
        let same : k ≡ last + 1 = omega (arith, le, to) in
        ap (λ n. decided_at script n access) same ∙ next
  ]

  so_once : (moment : ℕ) (decision : Decision) → decided_at script moment access ≡ decision → IsSo moment moment decision
  so_once moment decision is k from to =
      let same : k ≡ moment = omega (arith, from, to) in
      ap (λ n. decided_at script n access) same ∙ is

  -- ---- since when

  pub since_start : IsSince script 0 access 0
  since_start = record {
    within = omega arith;
    same = λ k from to. so_once 0 (decided_at script 0 access) refl k (omega arith) to;
    other = λ positive. absurd (omega (arith, positive));
  }

  pub since_goes_on : (done since : ℕ) → IsSince script done access since
      → decided_at script (done + 1) access ≡ decided_at script done access → IsSince script (done + 1) access since
  since_goes_on done since is same = record {
    within = omega (arith, is.within);
    same = λ k from to. so_more since done (decided_at script done access) is.same same k from to ∙ sym same;
    other = λ positive before. is.other positive (before ∙ same);
  }

  pub since_anew : (done : ℕ) → decided_at script (done + 1) access ≢ decided_at script done access
      → IsSince script (done + 1) access (done + 1)
  since_anew done changed = record {
    within = omega arith;
    same = so_once (done + 1) (decided_at script (done + 1) access) refl;
    other = λ positive before.
        let here : done + 1 - 1 ≡ done = omega arith in
        changed (sym before ∙ ap (λ n. decided_at script n access) here);
  }

  -- ---- at every moment

  -- the runs up to this moment, of which the last one may go on
  pub record AreAnsweredTo (moment : ℕ) (runs : List AnswerRun) (run : AnswerRun) : Type 0 where
    pub earlier : AreAnswerRunsFrom script access 0 run.first runs
    pub proper : run.first ≤ run.last
    pub here : run.last ≡ moment
    pub same : IsSo run.first run.last run.decision

  one_run_more : (first end : ℕ) (runs : List AnswerRun) (run : AnswerRun)
      → AreAnswerRunsFrom script access first end runs → run.first ≡ end → IsAnswerRun script access run
      → AreAnswerRunsFrom script access first (run.last + 1) (runs ++ run ∷ [])
  one_run_more first end [] run are begins is = (begins ∙ sym are, is, refl)
  one_run_more first end (one ∷ runs) run are begins is =
      (are.0, are.1, one_run_more (one.last + 1) end runs run are.2 begins is)

  pub answered_first : (decision : Decision) → decided_at script 0 access ≡ decision
      → AreAnsweredTo 0 [] (record { first = 0; last = 0; decision = decision })
  answered_first decision is = record {
    earlier = refl;
    proper = omega arith;
    here = refl;
    same = so_once 0 decision is;
  }

  module _ (moment : ℕ) (runs : List AnswerRun) (run : AnswerRun) (are : AreAnsweredTo moment runs run) where
    -- the run goes on
    pub answered_on : decided_at script (moment + 1) access ≡ run.decision
        → AreAnsweredTo (moment + 1) runs (record run { last = moment + 1 })
    answered_on next = record {
      earlier = are.earlier;
      proper = omega (arith, are.proper, are.here);
      here = refl;
      same = so_more run.first moment run.decision (rw are.here at are.same) next;
    }

    whole : (run.last < length script.batches → decided_at script (run.last + 1) access ≢ run.decision)
        → moment ≤ length script.batches → IsAnswerRun script access run
    whole ends inside = record {
      proper = are.proper;
      within = omega (arith, are.here, inside);
      same = are.same;
      longest = ends;
    }

    -- another begins
    pub answered_anew : (decision : Decision) → moment < length script.batches
        → decided_at script (moment + 1) access ≡ decision → decision ≢ run.decision
        → AreAnsweredTo (moment + 1) (runs ++ run ∷ []) (record {
          first = moment + 1;
          last = moment + 1;
          decision = decision;
        })
    answered_anew decision inside next changed =
        let last : run.last ≡ moment = are.here in
        let ends : decided_at script (run.last + 1) access ≢ run.decision =
        λ same. changed (sym next ∙ ap (λ n. decided_at script (n + 1) access) (sym last) ∙ same) in
        let run_is = whole (λ _. ends) (omega (arith, inside)) in
        record {
          earlier = subst (λ (n : ℕ). AreAnswerRunsFrom script access 0 (n + 1) (runs ++ run ∷ [])) last
              (one_run_more 0 run.first runs run are.earlier refl run_is);
          proper = omega arith;
          here = refl;
          same = so_once (moment + 1) decision next;
        }

    -- there are no more moments
    pub answered_all : moment ≡ length script.batches → AreAnswerRuns script access (runs ++ run ∷ [])
    answered_all last =
        let run_is = whole (λ sooner. absurd (omega (arith, sooner, are.here, last))) (omega (arith, last)) in
        let end : run.last ≡ length script.batches = are.here ∙ last in
        subst (λ (n : ℕ). AreAnswerRunsFrom script access 0 (n + 1) (runs ++ run ∷ [])) end
        (one_run_more 0 run.first runs run are.earlier refl run_is)
