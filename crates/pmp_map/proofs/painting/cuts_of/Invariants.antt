use Rattle.std.proofs.Common.{◌+◌, ◌*◌, ◌≤◌, length}
use Rattle.pmp_map.specs.Painting.{ArePainted}
use Rattle.pmp_map.proofs.painting.cuts_of.Given as goal

-- the entries from here on are painted
abbrev pub invariant-loop-index : goal.invariant-loop-index
invariant-loop-index l = record {
  painted : ArePainted l.registers l.index l.canvas.below l.canvas.above;
  inside : l.index ≤ length l.registers.entries;
  count : length l.canvas.below + length l.canvas.above + 2 * l.index ≤ 2 * length l.registers.entries + 1;
}

abbrev pub decreases-loop-index : goal.decreases-loop-index
decreases-loop-index l = l.index
