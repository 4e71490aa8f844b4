use Rattle.std.proofs.Common.{◌≡◌, ◌≤◌, length}
use Rattle.pmp_text.proofs.LeastRows.{least_of}
use Rattle.pmp_text.specs.Moments.{moments_in}
use Rattle.pmp_audit.proofs.PieceRows.{Reported}
use Rattle.pmp_audit.proofs.piece.report_rows.Given as goal

-- the rows so far are reported, and those that follow ask for no fewer publications than are done
abbrev pub invariant-loop-report : goal.invariant-loop-report
invariant-loop-report l = record {
  reported : Reported l.script l.fn.standing l.fn.rows.records l.rows l.faults l.report.items;
  place : l.place ≡ l.rows.place;
  script : l.replay.script ≡ l.fn.script;
  done : l.replay.done ≤ least_of (moments_in l.fn.script) l.rows.place.last;
}

abbrev pub decreases-loop-report : goal.decreases-loop-report
decreases-loop-report l = length l.rows.records
