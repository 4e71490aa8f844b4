use Rattle.std.proofs.lemmas.Result.{on_err_weaker}
use Rattle.pmp_lint.proofs.Telling.{told_some}
use Rattle.pmp_lint.proofs.end_state.Ended.add_of_runs.Goals as goal

pub returns-clause-err : goal.returns-clause-err
returns-clause-err g c =
    on_err_weaker c.add_write_and_execute.result (λ some. told_some g.R.RowSink.Adds g.met.R.RowSink.none g.met.R.RowSink.both
    _ _ _ _ c.in_ok-add_idle.ensures.ok some) c.add_write_and_execute.ensures.err
