use Rattle.std.proofs.Common.{rules, ◌≡◌}
use Rattle.std.proofs.lemmas.Result.{err_from_is_err_and}
use Rattle.pmp_tool.specs.Texts.{no_start, unread_start}
use Rattle.pmp_tool.proofs.texts.start_of.Goals as goal

pub returns-in_err-script-clause-err : goal.returns-in_err-script-clause-err
returns-in_err-script-clause-err g c =
    let p = err_from_is_err_and c.from_residual.result c.from_residual.ensures.1 in
    rw (p.1, p.2) (unread_start c.in-Some.path.now _ (search rules) c.in_err-script.ensures.unread)

pub returns-in_err-registers_after-clause-err : goal.returns-in_err-registers_after-clause-err
returns-in_err-registers_after-clause-err g c =
    let exit = c.from_residual-in_err-registers_after in
    let p = err_from_is_err_and exit.result exit.ensures.1 in
    let none = rw c.deref.ensures.value at c.in_err-registers_after.ensures.err in
    rw (p.1, p.2) (no_start c.in-Some.path.now c.in_ok-script.script.items _ (search rules) c.in_ok-script.ensures.read none)
