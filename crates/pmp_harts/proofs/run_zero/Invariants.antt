use Rattle.std.proofs.Common.{◌≡◌}
use Rattle.pmp_harts.proofs.run_zero.Given as goal

abbrev pub invariant-loop-writes : goal.invariant-loop-writes
invariant-loop-writes g l = (l.hart.unit ≡ l.publisher.unit) × (l.link.notices.unit ≡ l.publisher.unit)
