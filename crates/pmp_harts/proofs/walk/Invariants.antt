use Rattle.std.proofs.Common.{◌≡◌}
use Rattle.pmp_harts.proofs.walk.Given as goal

abbrev pub invariant-loop-start : goal.invariant-loop-start
invariant-loop-start l = l.hart.unit ≡ l.initial.hart.unit
