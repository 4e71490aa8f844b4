use Rattle.std.proofs.Common.{◌≡◌, replicate}
use Rattle.pmp_share.specs.Known.{known}
use Rattle.pmp_share.proofs.opening.seat_checkers.Given as goal

abbrev pub invariant-loop-seated : goal.invariant-loop-seated
invariant-loop-seated l = record {
  same : l.publisher ≡ l.fn.publisher;
  seated : l.checkers.items
      ≡ replicate l.seated (known l.fn.publisher.unit l.fn.publisher.published);
}
