use Rattle.std.proofs.Common.{◌∙◌}
use Rattle.std.proofs.lemmas.Result.{err_from_is_err_and}
use Rattle.pmp_tool.proofs.Steps.{stopped, went_on}
use Rattle.pmp_tool.proofs.command.read_whole_audit.Goals as goal

pub returns-in_err-checkers : goal.returns-in_err-checkers
returns-in_err-checkers c =
    let exit = c.from_residual-in_err-checkers in
    let p = err_from_is_err_and exit.result exit.ensures.1 in
    let count = rw c.from.ensures at c.in_err-checkers.ensures.value in
    rw (p.1, p.2) (stopped _ count ∙ went_on _ c.in_ok-need_neither.ensures)
