use Rattle.std.proofs.Common.{◌≡◌, ◌+◌, ◌∙◌, ap, arith, sym}
use Rattle.std.proofs.lemmas.Grind.{common_steps}
use Rattle.pmp_audit.specs.PolicyCheck.{state_after}
use Rattle.pmp_audit.proofs.policy_check.steps.Steps.advance.Goals as goal

pub returns-clause-after : goal.returns-clause-after
returns-clause-after c =
    let states = state_after c.args.self.now.pace c.args.self.now.script.now in
    let done = c.args.state.now.done in
    let was = c.requires.before.file in
    let step = c.step.ensures in
    let ran = c.run_events.ensures.steps in
    let file : c.run_events.new.self ≡ states (done + 1) = grind (arith, common_steps) in
    record {
      file = file;
      moved = λ before next.
          let same : states before ≡ c.registers-2.result =
          ap states (omega arith) ∙ sym was ∙ sym c.registers-2.ensures.same in
          rw (same, ← c.registers.ensures.same) c.moved_since-state.ensures.beside;
    }
