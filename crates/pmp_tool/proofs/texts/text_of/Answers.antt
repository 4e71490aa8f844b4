use Rattle.std.proofs.Common.{inr}
use Rattle.std.proofs.lemmas.Result.{err_from_is_err_and}
use Rattle.pmp_tool.proofs.texts.text_of.Goals as goal

pub returns-in_err-text-in-Plan-clause-err : goal.returns-in_err-text-in-Plan-clause-err
returns-in_err-text-in-Plan-clause-err g c =
    let exit = c.from_residual-in_err-text-in-Plan in
    let p = err_from_is_err_and exit.result exit.ensures.1 in
    rw (p.1, p.2, c.in-Plan.is) (inr c.in_err-text-in-Plan.ensures.err)

pub returns-in_err-text-in-PlanOf-clause-err : goal.returns-in_err-text-in-PlanOf-clause-err
returns-in_err-text-in-PlanOf-clause-err g c =
    let exit = c.from_residual-in_err-text-in-PlanOf in
    let p = err_from_is_err_and exit.result exit.ensures.1 in
    rw (p.1, p.2, c.in-PlanOf.is) (inr c.in_err-text-in-PlanOf.ensures.err)

pub returns-in_err-text-in-PolicyFrom-clause-err : goal.returns-in_err-text-in-PolicyFrom-clause-err
returns-in_err-text-in-PolicyFrom-clause-err g c =
    let exit = c.from_residual-in_err-text-in-PolicyFrom in
    let p = err_from_is_err_and exit.result exit.ensures.1 in
    rw (p.1, p.2, c.in-PolicyFrom.is) (inr c.in_err-text-in-PolicyFrom.ensures.err)
