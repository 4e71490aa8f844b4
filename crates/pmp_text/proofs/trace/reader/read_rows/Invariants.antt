use Rattle.std.proofs.Common.{length}
use Rattle.pmp_text.proofs.WholeTraces.{ReadSoFar}
use Rattle.pmp_text.proofs.trace.reader.read_rows.Given as goal

abbrev pub invariant-loop-rows : goal.invariant-loop-rows
invariant-loop-rows l =
    ReadSoFar l.fn.left.moments l.fn.left.place.next l.fn.left.records l.rows.items l.left

abbrev pub decreases-loop-rows : goal.decreases-loop-rows
decreases-loop-rows l = length l.left.records
