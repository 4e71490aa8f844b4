use Rattle.std.proofs.Common.{◌≡◌, All}
use Rattle.pmp_stress.proofs.round.tell_all.Given as goal

abbrev pub invariant-loop-seat : goal.invariant-loop-seat
invariant-loop-seat l = record {
  unit : l.publisher.unit ≡ l.fn.publisher.unit;
  same_unit : All (λ checker. checker.unit ≡ l.fn.publisher.unit) l.checkers;
}
