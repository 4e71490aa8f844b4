use Rattle.std.proofs.Common.{◌≡◌}
use Rattle.pmp_harts.proofs.fence.wait_for.Given as goal

abbrev pub invariant-loop : goal.invariant-loop
invariant-loop g l = l.notices.unit ≡ l.initial.notices.unit
