use Rattle.std.proofs.Common.{◌≡◌, drop}
use Rattle.pmp_names.specs.HartNames.{order_key}
use Rattle.pmp_names.specs.Keys.{keyed}
use Rattle.pmp_names.proofs.order_key.order_key.Given as goal

abbrev pub invariant-loop-byte : goal.invariant-loop-byte
invariant-loop-byte l = keyed l.key (drop l.byte-index l.name) ≡ order_key l.name
