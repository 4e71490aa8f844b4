use Rattle.std.proofs.Common.{◌++◌, length, refl}
use Rattle.pmp_lint.specs.LateWrites.{late_writes}
use Rattle.pmp_lint.specs.Report.{of_locks, of_runs}
use Rattle.pmp_lint.proofs.Telling.{err_some, told_more}
use Rattle.pmp_lint.proofs.report.add_told.Goals as goal

pub returns-clause-ok : goal.returns-clause-ok
returns-clause-ok g c =
    let script = c.args.script.now in
    let runs = c.runs.result.now in
    let between = c.in_ok-add_open_between.ensures.ok in
    let more = told_more g.R.RowSink.Adds g.met.R.RowSink.none g.met.R.RowSink.both in
    let all = more _ _ _ _ _ (more _ _ _ _ _ (more _ _ _ _ _ c.in_ok-add_of_locks.ensures.ok
    c.in_ok-add_of_runs.ensures.ok) between.has_told) c.in_ok-add_late_writes.ensures.ok in
    record {
      findings = of_locks script ++ of_runs script runs ++ between.findings ++ late_writes script (length script.batches);
      findings_are = record {
        runs = runs;
        runs_are = rw (c.build-map.ensures, c.end_of-file.ensures) at c.runs.ensures.runs;
        between = between.findings;
        between_are = between.findings_are;
        all = refl;
      };
      has_told = record { same = refl; added = all.added; counted = all.counted };
    }

pub returns-in_err-add_of_runs-clause-err : goal.returns-in_err-add_of_runs-clause-err
returns-in_err-add_of_runs-clause-err g c =
    err_some g.R.RowSink.Adds g.met.R.RowSink.none g.met.R.RowSink.both _ _ _ _ _
    c.in_ok-add_of_locks.ensures.ok c.in_err-add_of_runs.ensures.err

pub returns-in_err-add_open_between-clause-err : goal.returns-in_err-add_open_between-clause-err
returns-in_err-add_open_between-clause-err g c =
    let adds = g.R.RowSink.Adds in
    let none = g.met.R.RowSink.none in
    let both = g.met.R.RowSink.both in
    err_some adds none both _ _ _ _ _ (told_more adds none both _ _ _ _ _ c.in_ok-add_of_locks.ensures.ok
    c.in_ok-add_of_runs.ensures.ok) c.in_err-add_open_between.ensures.err

pub returns-in_err-add_late_writes-clause-err : goal.returns-in_err-add_late_writes-clause-err
returns-in_err-add_late_writes-clause-err g c =
    let adds = g.R.RowSink.Adds in
    let none = g.met.R.RowSink.none in
    let both = g.met.R.RowSink.both in
    err_some adds none both _ _ _ _ _ (told_more adds none both _ _ _ _ _ (told_more adds none both _ _ _ _ _
    c.in_ok-add_of_locks.ensures.ok c.in_ok-add_of_runs.ensures.ok) c.in_ok-add_open_between.ensures.ok.has_told)
    c.in_err-add_late_writes.ensures.err
