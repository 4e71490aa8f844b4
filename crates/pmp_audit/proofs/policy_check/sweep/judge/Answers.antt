use Rattle.std.proofs.Common.{◌≡◌, ◌+◌, ◌∙◌, ap, arith, length}
use Rattle.pmp_audit.specs.PolicyCheck.{step_count}
use Rattle.pmp_audit.proofs.PolicySweep.{whole_verdict}
use Rattle.pmp_audit.proofs.policy_check.sweep.judge.Goals as goal

pub loop-state-init : goal.loop-state-init
loop-state-init c =
    let steps = c.args.steps.now in
    let is = c.start-state.ensures.is in
    record {
      state = is;
      within = omega (arith, c.start-state.ensures.done);
      judged = c.ask_all.ensures.judged steps.pace steps.script.now is
          (rw (← c.start-state.ensures.done) at c.requires);
      rows = c.ask_all.ensures.rows;
    }

pub loop-state-preserved : goal.loop-state-preserved
loop-state-preserved c =
    let steps = c.args.steps.now in
    let is = c.advance.ensures.after in
    let at = c.loop-state in
    record {
      state = is;
      within = omega (arith, c.advance.ensures.done, c.loop-state-test.true);
      judged = c.ask_all-in-loop-state.ensures.judged steps.pace steps.script.now is
          (rw (← c.advance.ensures.done) at at.invariant.judged);
      rows = c.ask_all-in-loop-state.ensures.rows ∙ at.invariant.rows;
    }

pub returns-clause-judged : goal.returns-clause-judged
returns-clause-judged c = λ k d inside.
    let steps = c.args.steps.now in
    let last : c.count-last.result ≡ step_count steps.pace steps.script.now.batches (length steps.script.now.batches) =
    c.count-last.ensures ∙ ap (step_count steps.pace steps.script.now.batches) c.batches.ensures in
    whole_verdict steps.pace steps.script.now _ (c.loop-state.state.done + 1)
    (c.loop-state.invariant.judged k d inside) (omega (arith, last, c.loop-state-test.false))
