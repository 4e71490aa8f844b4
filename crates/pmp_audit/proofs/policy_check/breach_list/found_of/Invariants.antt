use Rattle.std.proofs.Common.{◌≡◌, ◌+◌, ◌-◌, ◌≤◌, ℕ}
use Rattle.pmp_audit.specs.declared.policy_check.question.Question.TheVariants.{IsBroken}
use Rattle.pmp_audit.specs.PolicyBreaches.{AreBegun, AreHits}
use Rattle.pmp_audit.specs.PolicyCheck.{state_after, step_count}
use Rattle.pmp_audit.specs.PolicySweep.{IsStateOf}
use Rattle.pmp_audit.proofs.policy_check.breach_list.found_of.Given as goal

-- the breaches up to this state, whose own runs are those of `before`
abbrev pub invariant-loop-state : goal.invariant-loop-state
invariant-loop-state l =
    let from = step_count l.steps.pace l.steps.script.now.batches l.row.from in
    record {
      state : IsStateOf (state_after l.steps.pace l.steps.script.now) l.state;
      within : l.state.done ≤ l.to;
      more : ℕ;
      count : from + more ≡ l.state.done;
      begun : AreBegun (state_after l.steps.pace l.steps.script.now) l.row from more l.all.items;
      hits : AreHits IsBroken l.state.file l.row l.before.items;
    }

abbrev pub decreases-loop-state : goal.decreases-loop-state
decreases-loop-state l = l.to - l.state.done
