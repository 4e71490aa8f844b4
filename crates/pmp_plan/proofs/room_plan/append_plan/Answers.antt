use Rattle.std.proofs.Common.{◌∙◌, ap, arith, inl, inr, refl, sym, List, Ok, map}
use Rattle.pmp_plan.specs.KeptRows.{said}
use Rattle.pmp_plan.specs.PlanRooms.{long, no_rows, no_script}
use Rattle.pmp_text.specs.Outcomes.{no_memory}
use Rattle.pmp_plan.specs.declared.plan_row.PlanRow.{PlanRow}
use Rattle.pmp_plan.proofs.Exits.{err_returned}
use Rattle.pmp_plan.proofs.room_plan.append_plan.Goals as goal

pub returns-then-text-gt-MAX_SCRIPT-clause-err : goal.returns-then-text-gt-MAX_SCRIPT-clause-err
returns-then-text-gt-MAX_SCRIPT-clause-err g c =
    rw (c.at_row.ensures, c.whole.ensures) (long (omega (arith, c.if-text-gt-MAX_SCRIPT.true)))

pub returns-in_err-read_plan_to-clause-err : goal.returns-in_err-read_plan_to-clause-err
returns-in_err-read_plan_to-clause-err g c =
    err_returned _ _ c.from_residual.ensures.1 (no_rows _ c.in_err-read_plan_to.ensures.err)

pub returns-in_err-writes-clause-err : goal.returns-in_err-writes-clause-err
returns-in_err-writes-clause-err g c =
    let are = c.in_ok-read_plan_to.ensures.ok ∙ ap (λ (rows : List PlanRow). Ok (map said rows)) (sym c.rows-rows.ensures) in
    err_returned _ _ c.from_residual-in_err-writes.ensures.1
    (no_script c.rows-rows.result.now _ are
    (inr (rw (c.reset_on-start.ensures, c.plain-aim.ensures) at c.in_err-writes.ensures.err)))

pub returns-in_err-append_script-clause-err : goal.returns-in_err-append_script-clause-err
returns-in_err-append_script-clause-err g c =
    let are = c.in_ok-read_plan_to.ensures.ok ∙ ap (λ (rows : List PlanRow). Ok (map said rows)) (sym c.rows-rows.ensures) in
    err_returned _ _ c.from_residual-in_err-append_script.ensures.1 (no_script c.rows-rows.result.now no_memory are (inl refl))
