use Rattle.std.proofs.Common.{◌≡◌, ℕ, ◌≤◌, ◌<◌, [], length, slice_index}
use Rattle.pmp_core.specs.declared.access.TheConstants.{ADDRESS_LIMIT}
use Rattle.pmp_map.specs.Tables.{IsSweptTo}
use Rattle.pmp_map.proofs.tables.Tables.fill.Given as goal

abbrev pub invariant-loop-cut : goal.invariant-loop-cut
invariant-loop-cut l = IsSweptTo l.registers l.self.starts l.self.rows l.cuts l.runs

abbrev pub decreases-loop-cut : goal.decreases-loop-cut
decreases-loop-cut l = length l.cuts

abbrev pub invariant-loop-place : goal.invariant-loop-place
invariant-loop-place l = record {
  swept : IsSweptTo l.registers l.self.starts l.self.rows [] l.runs;
  count : l.self.runs ≡ l.runs;
  padded : (k : ℕ) → l.runs ≤ k → k < l.place → slice_index l.self.starts k ≡ ADDRESS_LIMIT;
}
