use Rattle.std.proofs.Common.{take}
use Rattle.std.specs.Prelude.{All}
use Rattle.pmp_plan.specs.declared.plan_row.PlanRow.{PlanRow}
use Rattle.pmp_plan.specs.PlanRules.{HasRule}
use Rattle.pmp_plan.proofs.soundness.unruled.Given as goal

-- each row so far has a rule
abbrev pub invariant-loop-index : goal.invariant-loop-index
invariant-loop-index l = All (λ (row : PlanRow). HasRule l.security row.demand) (take l.index l.rows)
