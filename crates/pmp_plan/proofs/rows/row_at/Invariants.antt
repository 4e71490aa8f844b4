use Rattle.std.proofs.Common.{◌≡◌, take, false}
use Rattle.std.specs.List.{list_any}
use Rattle.pmp_plan.specs.Plans.{is_in}
use Rattle.pmp_plan.proofs.rows.row_at.Given as goal

-- no row so far has the byte
abbrev pub invariant-loop-row : goal.invariant-loop-row
invariant-loop-row l = list_any (is_in l.byte) (take l.row-index l.rows) ≡ false
