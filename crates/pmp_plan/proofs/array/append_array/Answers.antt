use Rattle.std.proofs.Common.{◌≡◌, ◌++◌, append_assoc, arith, List, OnOk, subst, ℕ}
use Rattle.std.proofs.lemmas.List.{take_all}
use Rattle.pmp_plan.proofs.array.append_array.Goals as goal

-- what stands behind three things that were appended
joined : (before mid all head body end : List ℕ) → mid ≡ before ++ head → all ≡ mid ++ body
    → all ++ end ≡ before ++ (head ++ (body ++ end))
joined before mid all head body end first second = rw (second, first) (simp append_assoc)

pub returns-clause-text : goal.returns-clause-text
returns-clause-text g c =
    let text = g.S.Sink.text in
    let whole = take_all c.loop-event.event-index c.args.writes.now (omega (arith, c.loop-event-test.false)) in
    let all = rw whole at c.loop-event.invariant in
    subst (λ (l : List ℕ). OnOk c.append-2.result (text c.append-2.new.self ≡ l))
    (joined (text c.args.out.now) (text c.append.new.self) (text c.loop-event.out) _ _ _ c.in_ok-append.ensures.ok all)
    c.append-2.ensures.ok
