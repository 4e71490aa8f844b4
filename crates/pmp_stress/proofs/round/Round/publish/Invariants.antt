use Rattle.std.proofs.Common.{◌≡◌}
use Rattle.pmp_stress.proofs.round.Round.publish.Given as goal

abbrev pub invariant-loop-batch : goal.invariant-loop-batch
invariant-loop-batch g l = l.publisher.unit ≡ l.initial.publisher.unit
