use Rattle.std.proofs.Common.{◌≡◌}
use Rattle.pmp_tests.proofs.sharing.sending.publish_there.Given as goal

abbrev pub invariant-loop-published : goal.invariant-loop-published
invariant-loop-published g l = l.notices.unit ≡ l.publisher.unit
