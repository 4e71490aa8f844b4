use Rattle.std.proofs.Common.{◌≡◌}
use Rattle.pmp_core.specs.Moved.{moved_among}
use Rattle.pmp_core.proofs.registers.Registers.moved_since.Given as goal

-- the entries so far
abbrev pub invariant-loop-index : goal.invariant-loop-index
invariant-loop-index l = record {
  moved : l.moved ≡ moved_among l.before l.self 0 l.index;
}
