use Rattle.std.proofs.Common.{◌≡◌}
use Rattle.pmp_tests.proofs.sharing.sending.learn_all.Given as goal

abbrev pub invariant-loop : goal.invariant-loop
invariant-loop g l = l.notices.unit ≡ l.checker.unit
