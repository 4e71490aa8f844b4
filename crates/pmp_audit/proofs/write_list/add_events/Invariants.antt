use Rattle.std.proofs.Common.{◌*◌, ◌≤◌}
use Rattle.pmp_audit.specs.EventRows.{AreWritten}
use Rattle.pmp_audit.specs.WriteList.{events_of}
use Rattle.pmp_audit.proofs.write_list.add_events.Given as goal

-- the publications so far are written, and each has at most 64 events
abbrev pub invariant-loop-index : goal.invariant-loop-index
invariant-loop-index g l = record {
  written : AreWritten g.R.RowSink.Adds l.accepted
      (record {
        rows = l.initial.out;
        file = l.script.start;
        summary = record { events = 0; not_stored = 0 };
      })
      (record { rows = l.out; file = l.file; summary = l.summary })
      (events_of l.script l.index);
  few : l.summary.events ≤ 64 * l.index;
  within : l.summary.not_stored ≤ l.summary.events;
}
