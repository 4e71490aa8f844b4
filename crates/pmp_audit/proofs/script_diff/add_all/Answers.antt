use Rattle.pmp_text.proofs.AddedRows.{some_and_some}
use Rattle.pmp_audit.proofs.Differences.{both_written}
use Rattle.pmp_audit.proofs.script_diff.add_all.Goals as goal

pub returns-clause-ok : goal.returns-clause-ok
returns-clause-ok g c =
    both_written g.R.RowSink.Adds g.met.R.RowSink.none g.met.R.RowSink.both c.args.old.now c.args.new.now c.args.asked
    _ _ _ _ _ c.in_ok-rights.ensures.ok c.in_ok-locks.ensures.ok

pub returns-in_err-locks-clause-err : goal.returns-in_err-locks-clause-err
returns-in_err-locks-clause-err g c =
    some_and_some g.R.RowSink.Adds g.met.R.RowSink.both _ _ _ _ (_, c.in_ok-rights.ensures.ok.added)
    c.in_err-locks.ensures.err
