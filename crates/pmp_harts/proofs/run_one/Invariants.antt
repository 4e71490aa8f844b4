use Rattle.std.proofs.Common.{◌≡◌}
use Rattle.pmp_harts.proofs.run_one.Given as goal

abbrev pub invariant-loop : goal.invariant-loop
invariant-loop g l = l.notices.unit ≡ l.hart.unit
