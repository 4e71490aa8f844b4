use Rattle.std.proofs.Common.{◌≡◌, ◌≤◌, drop, false, length}
use Rattle.std.specs.List.{list_any}
use Rattle.pmp_text.specs.Lines.{is_line_feed}
use Rattle.pmp_text.proofs.cutter.line_feed_end.Given as goal

-- the bytes so far, from the back, have no LF
abbrev pub invariant-loop-end : goal.invariant-loop-end
invariant-loop-end l = (l.end ≤ length l.bytes) × (list_any is_line_feed (drop l.end l.bytes) ≡ false)

abbrev pub decreases-loop-end : goal.decreases-loop-end
decreases-loop-end l = l.end
