use Rattle.std.proofs.Common.{arith}
use Rattle.std.proofs.lemmas.Result.{IfErr-weaker, IfOk-weaker}
use Rattle.pmp_plan.specs.PlanAnswers.{long, no_plan, no_writes}
use Rattle.pmp_plan.proofs.Exits.{err_returned}
use Rattle.pmp_plan.proofs.answer.plan_text.Goals as goal

pub returns-then-plan-gt-MAX_SCRIPT-clause-err : goal.returns-then-plan-gt-MAX_SCRIPT-clause-err
returns-then-plan-gt-MAX_SCRIPT-clause-err c =
    rw (c.at_row.ensures, c.whole.ensures) (long (omega (arith, c.if-plan-gt-MAX_SCRIPT.true)))

pub returns-in_err-rows-clause-err : goal.returns-in_err-rows-clause-err
returns-in_err-rows-clause-err c =
    err_returned _ _ c.from_residual.ensures.1 (no_plan _ c.in_err-rows.ensures.err)

pub returns-clause-ok : goal.returns-clause-ok
returns-clause-ok c = IfOk-weaker c.told.result _ _ (λ text told. record {
  fits = omega (arith, c.if-plan-gt-MAX_SCRIPT.false);
  rows = c.in_ok-rows.rows.items;
  are = c.in_ok-rows.ensures.ok;
  told = rw c.deref.ensures.value at told;
}) c.told.ensures.ok

pub returns-clause-err : goal.returns-clause-err
returns-clause-err c = IfErr-weaker c.told.result _ _ (λ fault untold.
    no_writes c.in_ok-rows.rows.items fault c.in_ok-rows.ensures.ok (rw c.deref.ensures.value at untold)) c.told.ensures.err
