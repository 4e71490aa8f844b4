use Rattle.std.proofs.Common.{◌≡◌, length}
use Rattle.pmp_audit.proofs.AuditedRows.{AreSoFar}
use Rattle.pmp_audit.proofs.audited_rows.add_each.Given as goal

-- the rows so far were added
abbrev pub invariant-loop-row : goal.invariant-loop-row
invariant-loop-row g l = record {
  so_far : AreSoFar l.fn.script g.R.RowSink.Adds l.rows l.rest l.replay.done l.number l.faults l.initial.out l.out;
  script : l.replay.script ≡ l.fn.script;
}

abbrev pub decreases-loop-row : goal.decreases-loop-row
decreases-loop-row g l = length l.rest
