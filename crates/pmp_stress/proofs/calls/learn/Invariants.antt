use Rattle.std.proofs.Common.{◌≡◌}
use Rattle.pmp_stress.proofs.calls.learn.Given as goal

abbrev pub invariant-loop : goal.invariant-loop
invariant-loop l = l.checker.unit ≡ l.publisher.unit
