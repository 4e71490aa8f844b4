use Rattle.std.proofs.Common.{◌≡◌, ◌+◌, ◌≤◌, ℕ, length}
use Rattle.pmp_core.specs.Ranges.{range_of}
use Rattle.pmp_core.specs.RegisterFile.{RegisterFile}
use Rattle.pmp_map.specs.Painting.{AreDown, AreUp, ArePainted, IsOwnerFrom, start_of}
use Rattle.pmp_map.proofs.painting.Canvas.paint.Given as goal

-- the cuts below are those of the bytes up to somewhere at the range's start or above
abbrev pub invariant-loop-cut : goal.invariant-loop-cut
invariant-loop-cut l = record {
  down : (file : RegisterFile) → l.range ≡ range_of file l.entry
      → ArePainted file (l.entry + 1) l.fn.self.below l.fn.self.above
      → (top : ℕ) × (l.range.start ≤ top) × AreDown (IsOwnerFrom file (l.entry + 1)) top l.self.below;
  up : (file : RegisterFile) → l.range ≡ range_of file l.entry
      → ArePainted file (l.entry + 1) l.fn.self.below l.fn.self.above
      → AreUp (IsOwnerFrom file (l.entry + 1)) l.self.above;
  meets : start_of l.self.above ≡ l.end;
  count : length l.self.below + length l.self.above ≤ length l.fn.self.below + length l.fn.self.above + 1;
}

abbrev pub decreases-loop-cut : goal.decreases-loop-cut
decreases-loop-cut l = length l.self.below
