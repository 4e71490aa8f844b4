use Rattle.std.proofs.Common.{refl, sym}
use Rattle.std.proofs.lemmas.Result.{err_from_is_err_and}
use Rattle.pmp_tool.specs.Questions.{allowed_moment, read_input, unnamed_moment, unread_input}
use Rattle.pmp_tool.proofs.questions.Asking.add_diff_rows.Goals as goal

pub returns-in_err-allow_name-clause-err : goal.returns-in_err-allow_name-clause-err
returns-in_err-allow_name-clause-err g c =
    let p = err_from_is_err_and c.from_residual.result c.from_residual.ensures.1 in
    rw (p.1, p.2) (unnamed_moment c.in_err-allow_name.field-0.0 (sym c.in_err-allow_name.ensures))

pub returns-in-Err-clause-err : goal.returns-in-Err-clause-err
returns-in-Err-clause-err g c =
    rw c.unread.ensures (allowed_moment _ (sym c.in_ok-allow_name.ensures)
    (unread_input c.in-Err.refusal c.in-Err.ensures.unread))

pub returns-in_err-allow_name-2-clause-err : goal.returns-in_err-allow_name-2-clause-err
returns-in_err-allow_name-2-clause-err g c =
    let exit = c.from_residual-in_err-allow_name-2 in
    let p = err_from_is_err_and exit.result exit.ensures.1 in
    let refused = rw c.deref.ensures.value at c.in_err-allow_name-2.ensures in
    rw (p.1, p.2) (allowed_moment _ (sym c.in_ok-allow_name.ensures) (read_input _ _ c.in-Ok.ensures.read
    (unnamed_moment c.in_err-allow_name-2.field-0.0 (sym refused))))

pub returns-in_err-count-clause-err : goal.returns-in_err-count-clause-err
returns-in_err-count-clause-err g c =
    let fault = c.in_err-count.field-0.0 in
    let exit = c.from_residual-in_err-count in
    let p = err_from_is_err_and exit.result exit.ensures.1 in
    let may = rw c.deref.ensures.value at c.in_ok-allow_name-2.ensures in
    rw (p.1, p.2) (allowed_moment _ (sym c.in_ok-allow_name.ensures) (read_input _ _ c.in-Ok.ensures.read
    (allowed_moment _ (sym may) (record {
      fault = fault;
      is = refl;
      declined = rw c.deref-2.ensures.value at c.in_err-count.ensures.err;
    }))))
