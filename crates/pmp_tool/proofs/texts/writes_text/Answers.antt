use Rattle.std.proofs.Common.{subst}
use Rattle.std.proofs.lemmas.Result.{err_from_is_err_and}
use Rattle.pmp_tool.specs.Inputs.{Paths}
use Rattle.pmp_tool.specs.Texts.{IsStart, no_plan_text, unplanned_rows, unstarted}
use Rattle.pmp_tool.proofs.texts.writes_text.Goals as goal

pub returns-in_err-rows-clause-err : goal.returns-in_err-rows-clause-err
returns-in_err-rows-clause-err g c =
    let p = err_from_is_err_and c.from_residual.result c.from_residual.ensures.1 in
    rw (p.1, p.2) (no_plan_text _ c.in_err-rows.ensures.unread)

pub returns-in_err-start-clause-err : goal.returns-in_err-start-clause-err
returns-in_err-start-clause-err g c =
    let exit = c.from_residual-in_err-start in
    let p = err_from_is_err_and exit.result exit.ensures.1 in
    rw (p.1, p.2) (unstarted _ (rw c.in_ok-rows.ensures.paths at c.in_err-start.ensures.err))

pub returns-in_err-plan_text-clause-err : goal.returns-in_err-plan_text-clause-err
returns-in_err-plan_text-clause-err g c =
    let exit = c.from_residual-in_err-plan_text in
    let p = err_from_is_err_and exit.result exit.ensures.1 in
    rw (p.1, p.2) (unplanned_rows c.in_ok-rows.rows.items c.in_ok-start.start _ c.in_ok-rows.ensures.read
    (subst (λ (paths : Paths). IsStart paths.scripts c.args.plan c.in_ok-start.start) c.in_ok-rows.ensures.paths
    c.in_ok-start.ensures.ok)
    (rw c.deref.ensures.value at c.in_err-plan_text.ensures.err))
