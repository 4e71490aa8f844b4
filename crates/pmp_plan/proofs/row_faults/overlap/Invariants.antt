use Rattle.std.proofs.Common.{ℕ, ◌<◌, length, get_or}
use Rattle.pmp_plan.specs.declared.plan_row.PlanRow.{PlanRow}
use Rattle.pmp_plan.specs.PlanFaults.{AreApart}
use Rattle.pmp_plan.proofs.row_faults.overlap.Given as goal

-- the rows before this one have no byte of one behind them
abbrev pub invariant-loop-row : goal.invariant-loop-row
invariant-loop-row l = (i j : ℕ) (d : PlanRow) → i < l.row → i < j → j < length l.rows
    → AreApart (get_or l.rows i d) (get_or l.rows j d)

-- nor has this one a byte of those up to there
abbrev pub invariant-loop-other : goal.invariant-loop-other
invariant-loop-other l = (j : ℕ) (d : PlanRow) → l.row < j → j < l.other
    → AreApart (get_or l.rows l.row d) (get_or l.rows j d)
