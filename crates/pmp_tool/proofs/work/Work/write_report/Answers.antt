use Rattle.std.proofs.lemmas.Result.{err_from_is_err_and}
use Rattle.std.proofs.KnownBytes.{Keeps-refl}
use Rattle.pmp_tool.specs.Streams.{no_script, no_trace, unaudited_trace}
use Rattle.pmp_tool.proofs.work.Work.write_report.Goals as goal

pub returns-in_err-script-clause-err : goal.returns-in_err-script-clause-err
returns-in_err-script-clause-err g c =
    let p = err_from_is_err_and c.from_residual.result c.from_residual.ensures.1 in
    rw (p.1, p.2) (no_script _ c.in_err-script.ensures.unread (Keeps-refl _))

pub returns-in_err-trace-clause-err : goal.returns-in_err-trace-clause-err
returns-in_err-trace-clause-err g c =
    let exit = c.from_residual-in_err-trace in
    let p = err_from_is_err_and exit.result exit.ensures.1 in
    rw (p.1, p.2) (no_trace _ (rw c.in_ok-script.ensures.paths at c.in_err-trace.ensures.unread) (Keeps-refl _))

pub returns-in_err-summary-in-Some-clause-err : goal.returns-in_err-summary-in-Some-clause-err
returns-in_err-summary-in-Some-clause-err g c =
    let exit = c.from_residual-in_err-summary-in-Some in
    let p = err_from_is_err_and exit.result exit.ensures.1 in
    let refused = rw (c.deref.ensures.value, c.deref-in-Some.ensures.value) at c.in_err-summary-in-Some.ensures.err in
    rw (p.1, p.2) (unaudited_trace c.in_ok-script.script.items c.in_ok-trace.trace.items
    c.in_err-summary-in-Some.field-0.0 c.in_ok-script.ensures.read
    (rw c.in_ok-script.ensures.paths at c.in_ok-trace.ensures.read) (rw c.in-Some.is refused))

pub returns-in_err-summary-in-None-clause-err : goal.returns-in_err-summary-in-None-clause-err
returns-in_err-summary-in-None-clause-err g c =
    let exit = c.from_residual-in_err-summary-in-None in
    let p = err_from_is_err_and exit.result exit.ensures.1 in
    let refused = rw (c.deref-in-None.ensures.value, c.deref-in-None-2.ensures.value)
    at c.in_err-summary-in-None.ensures.err in
    rw (p.1, p.2) (unaudited_trace c.in_ok-script.script.items c.in_ok-trace.trace.items
    c.in_err-summary-in-None.field-0.0 c.in_ok-script.ensures.read
    (rw c.in_ok-script.ensures.paths at c.in_ok-trace.ensures.read) (rw c.in-None.is refused))
