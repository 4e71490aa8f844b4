use Rattle.pmp_lint.proofs.Telling.{err_none, told_of_one}
use Rattle.pmp_lint.proofs.end_state.Ended.add_idle.Goals as goal

pub loop-entry-preserved : goal.loop-entry-preserved
loop-entry-preserved g c =
    told_of_one g.R.RowSink.Adds g.met.R.RowSink.none g.met.R.RowSink.both _ c.loop-entry.entry _ _ _ (rw c.never_decides.ensures at c.in_ok-add.ensures.ok) c.loop-entry.invariant

pub returns-in_err-add-clause-err : goal.returns-in_err-add-clause-err
returns-in_err-add-clause-err g c =
    err_none g.R.RowSink.Adds g.met.R.RowSink.none g.met.R.RowSink.both _ _ _ _ _ c.loop-entry.invariant
    c.in_err-add.ensures.err
