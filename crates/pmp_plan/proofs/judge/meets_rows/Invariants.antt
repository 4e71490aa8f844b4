use Rattle.std.proofs.Common.{take}
use Rattle.std.specs.Prelude.{All}
use Rattle.pmp_plan.specs.Plans.{MeetsRow}
use Rattle.pmp_plan.proofs.judge.meets_rows.Given as goal

-- the rows so far are met
abbrev pub invariant-loop-row : goal.invariant-loop-row
invariant-loop-row l = All (MeetsRow l.registers) (take l.row-index l.rows)
