use Rattle.std.proofs.Common.{[]}
use Rattle.std.proofs.lemmas.Result.{on_err_weaker, on_ok_weaker}
use Rattle.pmp_text.specs.Cells.{AddsSome}
use Rattle.pmp_text.proofs.Prefixes.{on_err}
use Rattle.pmp_audit.proofs.reasons.add_all.Goals as goal

pub returns-clause-ok : goal.returns-clause-ok
returns-clause-ok g c =
    on_ok_weaker c.add_history.result (λ said. (
      said.runs,
      said.are_runs,
      g.met.R.RowSink.both _ _ _ _ _ c.in_ok-add_why.ensures.ok said.added,
    )) c.add_history.ensures.ok

pub returns-clause-err : goal.returns-clause-err
returns-clause-err g c =
    on_err_weaker c.add_history.result (λ none. (_, g.met.R.RowSink.both _ _ _ _ _ c.in_ok-add_why.ensures.ok none))
    c.add_history.ensures.err

pub returns-in_err-add_why-clause-err : goal.returns-in_err-add_why-clause-err
returns-in_err-add_why-clause-err g c =
    let some : AddsSome g.R.RowSink.Adds c.args.out.now c.add_why.new.out = ([], c.in_err-add_why.ensures.err) in
    on_err _ some
