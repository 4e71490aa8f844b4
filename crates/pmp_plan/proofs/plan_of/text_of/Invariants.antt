use Rattle.std.proofs.Common.{◌-◌, ◌≤◌}
use Rattle.pmp_core.specs.declared.access.TheConstants.{ADDRESS_LIMIT}
use Rattle.pmp_plan.proofs.plan_of.text_of.Given as goal

abbrev pub invariant-loop-at : goal.invariant-loop-at
invariant-loop-at l = l.at ≤ ADDRESS_LIMIT

abbrev pub decreases-loop-at : goal.decreases-loop-at
decreases-loop-at l = ADDRESS_LIMIT - l.at
