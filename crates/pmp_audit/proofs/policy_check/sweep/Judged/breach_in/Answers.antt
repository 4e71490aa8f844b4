use denote.Enum.Bare.{same_true}
use Rattle.std.proofs.Common.{◌≡◌, ◌≢◌, ◌∙◌, None, Some, refl, rules, sym}
use Rattle.std.proofs.lemmas.Bool.{false≢true}
use Rattle.pmp_text.specs.contracts.policy.Demand.{the_type}
use Rattle.pmp_text.specs.declared.policy.Demand.TheVariants.{Held}
use Rattle.pmp_audit.proofs.PolicySweep.{breaks, held_or_not, here, holds_on, loose}
use Rattle.pmp_audit.proofs.policy_check.sweep.Judged.breach_in.Goals as goal
use Rattle.pmp_audit.proofs.policy_check.sweep.Judged.breach_in.Goals.{else-eq-via-then-eq+else-done-self, else-eq-via-else-eq}

pub returns-in-Some : goal.returns-in-Some
returns-in-Some c = λ states is before.
    breaks c.requires.0 c.requires.1 before _ refl
    (here is before c.requires.1 (Some c.in-Some.run') c.in-Some.ensures)

pub returns-in_err-run : goal.returns-in_err-run
returns-in_err-run c = λ states is before.
    let none = here is before c.requires.1 None c.in_default.ensures in
    let held : c.args.self.now.row.demand ≡ Held = same_true the_type (search rules) _ _ (sym c.if-eq.ensures) in
    let last = c.if-done-self.true in
    rw c.from_residual.ensures (held_or_not c.requires.0 c.requires.1 before none None held (sym last)
    (loose is before c.requires.1 last None c.in_err-run.ensures))

pub returns-then-done-self : goal.returns-then-done-self
returns-then-done-self c = λ states is before.
    let none = here is before c.requires.1 None c.in_default.ensures in
    let held : c.args.self.now.row.demand ≡ Held = same_true the_type (search rules) _ _ (sym c.if-eq.ensures) in
    let last = c.if-done-self.true in
    held_or_not c.requires.0 c.requires.1 before none _ held (sym last)
    (loose is before c.requires.1 last (Some c.in_ok-run.run') c.in_ok-run.ensures)

pub returns : goal.returns
returns c = λ states is before.
    let other : c.args.self.now.row.demand ≡ Held → c.args.state.now.done ≢ c.args.self.now.to =
    elim c.else-eq.branch [
      | else-eq-via-then-eq+else-done-self w ↦ λ held last. w.if-done-self.false last
      | else-eq-via-else-eq w ↦ λ held last.
          false≢true (sym w.if-eq.false ∙ (rw held at c.eq.ensures))
    ] in
    holds_on c.requires.0 c.requires.1 before (here is before c.requires.1 None c.in_default.ensures) other
