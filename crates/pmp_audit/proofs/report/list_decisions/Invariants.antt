use Rattle.std.proofs.Common.{◌≡◌, ◌≤◌, ◌++◌, take}
use Rattle.pmp_text.specs.LongTraces.{report_text_from}
use Rattle.pmp_audit.specs.Report.{refused_count}
use Rattle.pmp_audit.proofs.report.list_decisions.Given as goal

-- the rows so far are reported and counted
abbrev pub invariant-loop-place : goal.invariant-loop-place
invariant-loop-place l = record {
  few : l.faults ≤ l.place;
  text : l.report.items ≡ l.fn.report.items ++ report_text_from 1 (take l.place l.rows) (take l.place l.decisions);
  counted : l.faults ≡ refused_count (take l.place l.decisions);
}
