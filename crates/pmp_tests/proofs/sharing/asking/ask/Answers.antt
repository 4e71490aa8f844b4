use Rattle.std.proofs.Common.{◌≡◌, ◌∙◌, List, Result, Ok, Err, OnOk, IfOk, subst, sym, fold}
use Rattle.pmp_core.specs.declared.decision.Decision.{Decision}
use Rattle.pmp_core.specs.declared.event.Event.{Event}
use Rattle.pmp_core.specs.Decision.{IsDecision}
use Rattle.pmp_core.specs.Histories.{joined}
use Rattle.pmp_core.specs.Ranges.{decision_of}
use Rattle.pmp_core.specs.RegisterWrite.{step}
use Rattle.pmp_share.specs.declared.checker.Moved.{Moved}
use Rattle.pmp_share.specs.Batches.{StartsWith}
use Rattle.pmp_share.specs.Tokens.{UnitId}
use Rattle.pmp_share.proofs.LookFacts.{starts_on}
use Rattle.pmp_tests.proofs.sharing.asking.ask.Goals as goal
use Rattle.pmp_tests.proofs.sharing.asking.ask.Goals.{After-decide_at}

-- what both clauses say of an answer
on_answer : (result : Result Decision Moved) (A : Type 0) (P Q : Decision → Type 0) → OnOk result A → IfOk result P
    → (A → (decision : Decision) → P decision → Q decision) → IfOk result Q
on_answer (Ok decision) A P Q a p step = step a decision p
on_answer (Err moved) A P Q a p step = tt

-- what is decided in as many events as were told is decided in these, by the checker's unit, which is the notice's
in_told : (P : UnitId → List Event → Decision → Type 0) (c : After-decide_at)
    → IfOk c.decide_at.result (P c.decide_at.new.self.unit (joined c.decide_at.new.self.list))
    → IfOk c.decide_at.result (P c.args.notice.unit (joined c.args.notice.list))
in_told P c decided =
    let new = c.decide_at.new.self.list in
    let told = c.args.notice.list in
    let begins : StartsWith new told = starts_on _ _ told c.decide_at.ensures.look.begins c.learn.ensures.begins.1 in
    let unit = c.decide_at.ensures.look.unit ∙ c.learn.ensures.unit ∙ sym c.requires in
    on_answer c.decide_at.result _ _ _ c.decide_at.ensures.at_len decided (λ at decision in_new.
    subst (λ (u : UnitId). P u (joined told) decision) unit (subst (λ (es : List Event). P c.decide_at.new.self.unit es decision)
    (c.law_same_events.ensures new told begins (at.0 ∙ c.len-len.ensures)) in_new))

pub returns-clause-decided : goal.returns-clause-decided
returns-clause-decided c =
    in_told (λ unit events decision. IsDecision (fold step unit.base events) c.args.access.now decision)
    (goal.at.returns-clause-decided c).After-decide_at c.decide_at.ensures.decided

pub returns-clause-computed : goal.returns-clause-computed
returns-clause-computed c =
    in_told (λ unit events decision. decision ≡ decision_of (fold step unit.base events) c.args.access.now)
    (goal.at.returns-clause-computed c).After-decide_at c.decide_at.ensures.computed
