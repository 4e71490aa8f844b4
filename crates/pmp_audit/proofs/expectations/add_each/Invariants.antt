use Rattle.std.proofs.Common.{◌≡◌, ◌≤◌, take}
use Rattle.pmp_audit.specs.Expectations.{differing, expected_rows, file_at_event}
use Rattle.pmp_audit.proofs.expectations.add_each.Given as goal

-- the rows of the expectations so far are there, with the file behind so many events
abbrev pub invariant-loop-expectation : goal.invariant-loop-expectation
invariant-loop-expectation g l = record {
  added : g.R.RowSink.Adds (expected_rows l.script (take l.expectation-index l.expectations)) l.initial.out l.out;
  counted : l.count ≡ differing l.accepted l.script (take l.expectation-index l.expectations);
  file : l.file ≡ file_at_event l.script l.done;
}
