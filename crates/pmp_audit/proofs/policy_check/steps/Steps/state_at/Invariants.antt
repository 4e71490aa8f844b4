use Rattle.std.proofs.Common.{◌-◌, ◌≤◌}
use Rattle.pmp_audit.specs.PolicyCheck.{state_after}
use Rattle.pmp_audit.specs.PolicySweep.{IsStateOf}
use Rattle.pmp_audit.proofs.policy_check.steps.Steps.state_at.Given as goal

abbrev pub invariant-loop-state : goal.invariant-loop-state
invariant-loop-state l = record {
  state : IsStateOf (state_after l.self.pace l.self.script.now) l.state;
  within : l.state.done ≤ l.done;
}

abbrev pub decreases-loop-state : goal.decreases-loop-state
decreases-loop-state l = l.done - l.state.done
