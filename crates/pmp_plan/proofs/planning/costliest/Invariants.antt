use Rattle.std.proofs.Common.{◌<◌, length}
use Rattle.pmp_plan.proofs.planning.costliest.Given as goal

-- the costliest row so far is one of them
abbrev pub invariant-loop-index : goal.invariant-loop-index
invariant-loop-index l = 0 < length l.rows → l.costly < length l.rows
