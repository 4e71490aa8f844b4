use Rattle.std.proofs.Common.{inr, refl}
use Rattle.pmp_text.specs.Flaws.{as_whole}
use Rattle.pmp_text.specs.declared.refusal.Refusal.TheVariants.{BadPair}
use Rattle.pmp_plan.specs.PlanFaults.{of_row}
use Rattle.pmp_plan.proofs.Exits.{err_returned}
use Rattle.pmp_plan.proofs.soundness.check_plan.Goals as goal

pub returns-in_err-check_rows-clause-err : goal.returns-in_err-check_rows-clause-err
returns-in_err-check_rows-clause-err c =
    err_returned _ _ c.from_residual.ensures.1 (c.in_err-check_rows.ensures.err c.args.security)

pub returns-in-Some-clause-err : goal.returns-in-Some-clause-err
returns-in-Some-clause-err c =
    let (row, here, unruled) = c.in-Some.ensures in
    rw (c.in_row.ensures, c.whole.ensures)
    (of_row c.in-Some.index row (as_whole BadPair) here (inr (refl, unruled)))
