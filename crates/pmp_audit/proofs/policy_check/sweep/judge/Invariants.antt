use Rattle.std.proofs.Common.{◌≡◌, ◌+◌, ◌-◌, ◌≤◌}
use Rattle.std.specs.Prelude.{All}
use Rattle.pmp_audit.specs.PolicyCheck.{state_after}
use Rattle.pmp_audit.specs.PolicySweep.{IsJudged, IsStateOf, rows_of}
use Rattle.pmp_audit.proofs.policy_check.sweep.judge.Given as goal

-- all rows have been asked of this state
abbrev pub invariant-loop-state : goal.invariant-loop-state
invariant-loop-state l = record {
  state : IsStateOf (state_after l.steps.pace l.steps.script.now) l.state;
  within : l.state.done ≤ l.last;
  judged : All (IsJudged l.steps.pace l.steps.script.now (l.state.done + 1)) l.rows;
  rows : rows_of l.rows ≡ rows_of l.fn.rows;
}

abbrev pub decreases-loop-state : goal.decreases-loop-state
decreases-loop-state l = l.last - l.state.done
