use Rattle.std.proofs.Common.{take}
use Rattle.std.specs.Prelude.{All}
use Rattle.pmp_plan.specs.PlanFaults.{IsFit}
use Rattle.pmp_plan.proofs.row_faults.check_rows.Given as goal

-- the rows so far are fit
abbrev pub invariant-loop-index : goal.invariant-loop-index
invariant-loop-index l = All (IsFit l.hart) (take l.index l.rows)
