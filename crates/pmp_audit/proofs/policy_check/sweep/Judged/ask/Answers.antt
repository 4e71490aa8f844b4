use Rattle.std.proofs.Common.{◌≡◌, ◌≤◌, ◌∙◌, ap, arith, false, not, sym}
use Rattle.std.specs.Prelude.{is_some}
use Rattle.std.proofs.lemmas.Bool.{false≢true}
use Rattle.pmp_audit.specs.PolicyCheck.{state_after}
use Rattle.pmp_audit.proofs.PolicySweep.{not_asked, open_before, with_verdict}
use Rattle.pmp_audit.proofs.policy_check.sweep.Judged.ask.Goals as goal
use Rattle.pmp_audit.proofs.policy_check.sweep.Judged.ask.Goals.{else-is_none-via-then-is_none+then-self-state+else-state-self, else-is_none-via-then-is_none+else-self-state, else-is_none-via-else-is_none}

pub returns-then-state-self-clause-judged : goal.returns-then-state-self-clause-judged
returns-then-state-self-clause-judged c = λ pace script is before.
    let judged = c.args.self.now in
    let done = c.args.state.now.done in
    with_verdict pace script judged done before c.breach_in-self.result
    (c.breach_in-self.ensures (state_after pace script) is
    (open_before pace script judged done before c.if-is_none.ensures))

pub returns-else-is_none-clause-judged : goal.returns-else-is_none-clause-judged
returns-else-is_none-clause-judged c = λ pace script is before.
    let judged = c.args.self.now in
    let done = c.args.state.now.done in
    let apart : is_some judged.verdict ≡ false → judged.from ≤ done → done ≤ judged.to → ⊥ =
    elim c.else-is_none.branch [
      | else-is_none-via-then-is_none+then-self-state+else-state-self w ↦ λ none after until.
          absurd (omega (arith, w.if-state-self.false))
      | else-is_none-via-then-is_none+else-self-state w ↦ λ none after until.
          absurd (omega (arith, w.if-self-state.false))
      | else-is_none-via-else-is_none w ↦ λ none after until.
          false≢true (sym none ∙ c.is_none.ensures ∙ ap not w.if-is_none.false)
    ] in
    not_asked pace script judged done before apart
