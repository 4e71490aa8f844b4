use Rattle.std.proofs.Common.{◌≡◌, ℕ, ◌+◌, ◌≤◌, length}
use Rattle.pmp_core.specs.RegisterFile.{RegisterFile}
use Rattle.pmp_map.specs.Painting.{ArePainted, start_of}
use Rattle.pmp_map.proofs.painting.Canvas.part_at.Given as goal

abbrev pub invariant-loop-cut : goal.invariant-loop-cut
invariant-loop-cut l = record {
  painted : (file : RegisterFile) (i : ℕ) → ArePainted file i l.fn.self.below l.fn.self.above
      → ArePainted file i l.self.below l.self.above;
  count : length l.self.below + length l.self.above ≡ length l.fn.self.below + length l.fn.self.above;
}

abbrev pub decreases-loop-cut : goal.decreases-loop-cut
decreases-loop-cut l = length l.self.above

abbrev pub invariant-loop-cut-2 : goal.invariant-loop-cut-2
invariant-loop-cut-2 l = record {
  painted : (file : RegisterFile) (i : ℕ) → ArePainted file i l.fn.self.below l.fn.self.above
      → ArePainted file i l.self.below l.self.above;
  count : length l.self.below + length l.self.above ≡ length l.fn.self.below + length l.fn.self.above;
  above : l.fn.byte ≤ start_of l.self.above;
}

abbrev pub decreases-loop-cut-2 : goal.decreases-loop-cut-2
decreases-loop-cut-2 l = length l.self.below
