use Rattle.std.proofs.lemmas.Result.{err_from_is_err_and}
use Rattle.std.proofs.KnownBytes.{Keeps-refl}
use Rattle.pmp_tool.specs.Runs.{has_no_text, unprinted}
use Rattle.pmp_tool.proofs.run.print.Goals as goal

pub returns-in_err-outcome-clause-err : goal.returns-in_err-outcome-clause-err
returns-in_err-outcome-clause-err g c =
    let p = err_from_is_err_and c.from_residual.result c.from_residual.ensures.1 in
    rw (p.1, p.2) (has_no_text c.args.printed _ c.in_err-outcome.ensures.err (Keeps-refl _))

pub returns-in_err-write_out-clause-err : goal.returns-in_err-write_out-clause-err
returns-in_err-write_out-clause-err g c =
    let exit = c.from_residual-in_err-write_out in
    let p = err_from_is_err_and exit.result exit.ensures.1 in
    let answer = c.in_ok-outcome in
    rw (p.1, p.2) (unprinted c.args.printed answer.outcome answer.text.items answer.ensures.ok
    (rw c.deref.ensures.value at c.in_err-write_out.ensures.err))
