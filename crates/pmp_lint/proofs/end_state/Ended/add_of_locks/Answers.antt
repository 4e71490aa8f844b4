use Rattle.std.proofs.lemmas.Result.{on_err_weaker}
use Rattle.pmp_lint.proofs.Telling.{err_none, told_some}
use Rattle.pmp_lint.proofs.end_state.Ended.add_of_locks.Goals as goal

pub returns-clause-err : goal.returns-clause-err
returns-clause-err g c =
    let adds = g.R.RowSink.Adds in
    let none = g.met.R.RowSink.none in
    let both = g.met.R.RowSink.both in
    on_err_weaker c.add_open_before.result (λ some. told_some adds none both _ _ _ _ c.in_ok-add.ensures.ok
    (told_some adds none both _ _ _ _ c.in_ok-add-2.ensures.ok some)) c.add_open_before.ensures.err

pub returns-in_err-add-2-clause-err : goal.returns-in_err-add-2-clause-err
returns-in_err-add-2-clause-err g c =
    err_none g.R.RowSink.Adds g.met.R.RowSink.none g.met.R.RowSink.both _ _ _ _ _ c.in_ok-add.ensures.ok
    c.in_err-add-2.ensures.err
