use Rattle.std.proofs.Common.{◌≡◌, refl, rules}
use Rattle.std.proofs.lemmas.Result.{err_from_is_err_and}
use Rattle.pmp_tool.specs.Questions.{is_empty, read_input, unjudged, unread_input}
use Rattle.pmp_tool.proofs.questions.Asking.add_policy_rows.Goals as goal

pub returns-in_err-text-clause-err : goal.returns-in_err-text-clause-err
returns-in_err-text-clause-err g c =
    let p = err_from_is_err_and c.from_residual.result c.from_residual.ensures.1 in
    rw (p.1, p.2) (unread_input c.in_err-text.field-0.0 c.in_err-text.ensures.unread)

pub returns-in_err-summary-clause-err : goal.returns-in_err-summary-clause-err
returns-in_err-summary-clause-err g c =
    let exit = c.from_residual-in_err-summary in
    let p = err_from_is_err_and exit.result exit.ensures.1 in
    rw (p.1, p.2) (read_input c.in_ok-text.text.items _ c.in_ok-text.ensures.read (unjudged _ (record {
      fault = c.in_err-summary.field-0.0;
      is = refl;
      declined = rw c.deref.ensures.value at c.in_err-summary.ensures.err;
    })))

pub returns-then-summary-eq0-clause-err : goal.returns-then-summary-eq0-clause-err
returns-then-summary-eq0-clause-err g c =
    let judged = rw c.deref.ensures.value at c.in_ok-summary.ensures.ok in
    let none : c.in_ok-summary.summary.rows ≡ 0 = search rules in
    rw c.from.ensures (read_input c.in_ok-text.text.items _ c.in_ok-text.ensures.read
    (is_empty c.in_ok-summary.summary judged.rows (search rules) judged.says none))
