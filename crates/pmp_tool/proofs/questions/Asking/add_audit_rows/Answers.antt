use Rattle.std.proofs.Common.{refl}
use Rattle.std.proofs.lemmas.Result.{err_from_is_err_and}
use Rattle.pmp_tool.specs.Questions.{read_input, unread_input}
use Rattle.pmp_tool.proofs.questions.Asking.add_audit_rows.Goals as goal

pub returns-in_err-trace-clause-err : goal.returns-in_err-trace-clause-err
returns-in_err-trace-clause-err g c =
    let p = err_from_is_err_and c.from_residual.result c.from_residual.ensures.1 in
    rw (p.1, p.2) (unread_input c.in_err-trace.field-0.0 c.in_err-trace.ensures.unread)

pub returns-in_err-summary-clause-err : goal.returns-in_err-summary-clause-err
returns-in_err-summary-clause-err g c =
    let exit = c.from_residual-in_err-summary in
    let p = err_from_is_err_and exit.result exit.ensures.1 in
    rw (p.1, p.2) (read_input c.in_ok-trace.trace.items _ c.in_ok-trace.ensures.read (record {
      fault = c.in_err-summary.field-0.0;
      is = refl;
      declined = rw c.deref.ensures.value at c.in_err-summary.ensures.err;
    }))
