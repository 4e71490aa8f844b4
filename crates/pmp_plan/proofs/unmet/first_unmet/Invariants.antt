use Rattle.std.proofs.Common.{ℕ, ◌-◌, ◌<◌, ◌≤◌}
use Rattle.pmp_core.specs.declared.access.TheConstants.{ADDRESS_LIMIT}
use Rattle.pmp_plan.specs.Plans.{Gives}
use Rattle.pmp_plan.proofs.unmet.first_unmet.Given as goal

-- the bytes before this one are given what is asked
abbrev pub invariant-loop-at : goal.invariant-loop-at
invariant-loop-at l = record {
  from : l.first ≤ l.at;
  all : (byte : ℕ) → l.first ≤ byte → byte < l.at → Gives l.registers l.demand byte;
}

abbrev pub decreases-loop-at : goal.decreases-loop-at
decreases-loop-at l = ADDRESS_LIMIT - l.at
