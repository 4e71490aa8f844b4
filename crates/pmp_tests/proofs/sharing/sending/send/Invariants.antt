use Rattle.std.proofs.Common.{◌≡◌}
use Rattle.pmp_tests.proofs.sharing.sending.send.Given as goal

abbrev pub invariant-loop : goal.invariant-loop
invariant-loop g l = (l.unsent.unit ≡ l.notices.unit) × (l.notices.unit ≡ l.initial.notices.unit)
