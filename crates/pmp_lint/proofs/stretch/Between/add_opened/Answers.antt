use Rattle.pmp_lint.proofs.Stretches.{one_more_told}
use Rattle.pmp_lint.proofs.Telling.{err_none}
use Rattle.pmp_lint.proofs.stretch.Between.add_opened.Goals as goal

pub loop-first-preserved : goal.loop-first-preserved
loop-first-preserved g c =
    one_more_told c.args.self.now.before.now c.args.self.now.during.now c.args.self.now.after.now
    g.R.RowSink.Adds g.met.R.RowSink.none g.met.R.RowSink.both c.args.line _ _ _ c.loop-first.first c.stretch_from-stretch.result c.loop-first.invariant c.stretch_from-stretch.ensures.begins
    c.stretch_from-stretch.ensures.longest (rw c.open_between.ensures at c.in_ok-add.ensures.ok)

pub returns-in_err-add-clause-err : goal.returns-in_err-add-clause-err
returns-in_err-add-clause-err g c =
    err_none g.R.RowSink.Adds g.met.R.RowSink.none g.met.R.RowSink.both _ _ _ _ _
    c.loop-first.invariant.told c.in_err-add.ensures.err
