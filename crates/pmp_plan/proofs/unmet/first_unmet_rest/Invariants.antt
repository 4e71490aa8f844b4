use Rattle.std.proofs.Common.{◌≤◌, ◌-◌}
use Rattle.pmp_core.specs.declared.access.TheConstants.{ADDRESS_LIMIT}
use Rattle.pmp_plan.specs.Walks.{GivesRest}
use Rattle.pmp_plan.proofs.unmet.first_unmet_rest.Given as goal

-- the bytes before this one that no row has are given the rights
abbrev pub invariant-loop-at : goal.invariant-loop-at
invariant-loop-at l = record {
  inside : l.at ≤ ADDRESS_LIMIT;
  rest : GivesRest l.registers l.rows l.fn.rights l.at;
}

abbrev pub decreases-loop-at : goal.decreases-loop-at
decreases-loop-at l = ADDRESS_LIMIT - l.at
