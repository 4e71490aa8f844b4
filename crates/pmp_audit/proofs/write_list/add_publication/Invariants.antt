use Rattle.std.proofs.Common.{◌≤◌, length, take}
use Rattle.pmp_audit.specs.EventRows.{AreWritten}
use Rattle.pmp_audit.specs.WriteList.{placed}
use Rattle.pmp_audit.proofs.write_list.add_publication.Given as goal

-- the events so far are written
abbrev pub invariant-loop-line : goal.invariant-loop-line
invariant-loop-line g l = record {
  written : AreWritten g.R.RowSink.Adds l.publication.accepted.now
      (record { rows = l.fn.out; file = l.fn.file; summary = l.fn.before })
      (record { rows = l.out; file = l.file; summary = l.summary })
      (take (length l.yielded) (placed l.publication.number l.publication.lines.now l.publication.events.now));
  within : l.summary.not_stored ≤ l.summary.events;
}
