use Rattle.std.proofs.Common.{inr, refl, sym}
use Rattle.std.proofs.lemmas.Result.{err_from_is_err_and}
use Rattle.pmp_tool.specs.Questions.{allowed_moment, unnamed_moment}
use Rattle.pmp_tool.specs.Texts.{no_shown_script, unshown}
use Rattle.pmp_tool.proofs.texts.show_text.Goals as goal

pub returns-in-Err-clause-err : goal.returns-in-Err-clause-err
returns-in-Err-clause-err g c =
    rw (c.unscripted.ensures, c.from.ensures) (inr (no_shown_script c.in-Err.refusal c.in-Err.ensures.unread))

pub returns-in_err-allow_name-clause-err : goal.returns-in_err-allow_name-clause-err
returns-in_err-allow_name-clause-err g c =
    let p = err_from_is_err_and c.from_residual.result c.from_residual.ensures.1 in
    let unnamed = rw c.deref.ensures.value at c.in_err-allow_name.ensures in
    rw (p.1, p.2) (inr (unshown c.in-Ok.script.items _ c.in-Ok.ensures.read
    (unnamed_moment c.in_err-allow_name.field-0.0 (sym unnamed))))

pub returns-in_err-append_view-clause-err : goal.returns-in_err-append_view-clause-err
returns-in_err-append_view-clause-err g c =
    let exit = c.from_residual-in_err-append_view in
    let p = err_from_is_err_and exit.result exit.ensures.1 in
    let may = rw c.deref.ensures.value at c.in_ok-allow_name.ensures in
    rw (p.1, p.2) (inr (unshown c.in-Ok.script.items _ c.in-Ok.ensures.read (allowed_moment _ (sym may) (record {
      fault = c.in_err-append_view.field-0.0;
      is = refl;
      declined = rw c.deref-2.ensures.value at c.in_err-append_view.ensures.err;
    }))))
