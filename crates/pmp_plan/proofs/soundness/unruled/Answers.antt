use Rattle.std.proofs.Common.{arith, length, refl, subst}
use Rattle.std.proofs.lemmas.List.{take_all}
use Rattle.std.proofs.lemmas.List.Elements.{All-more}
use Rattle.std.proofs.lemmas.Option.{slice_get_read}
use Rattle.pmp_plan.specs.declared.plan_row.PlanRow.{PlanRow}
use Rattle.pmp_plan.specs.PlanRules.{HasRule}
use Rattle.pmp_plan.proofs.soundness.unruled.Goals as goal

pub returns-then-not-has_rule : goal.returns-then-not-has_rule
returns-then-not-has_rule c =
    let rows = c.args.rows.now in
    let row = c.index-rows-index in (
      row.result,
      slice_get_read rows (length rows) c.loop-index.index row.result refl c.loop-index-test.true row.is,
      c.if-not-has_rule.ensures.no refl,
    )

pub loop-index-preserved : goal.loop-index-preserved
loop-index-preserved c =
    let row = c.index-rows-index in
    All-more (λ (row : PlanRow). HasRule c.args.security row.demand) c.args.rows.now c.loop-index.index row.result
    c.loop-index-test.true c.loop-index.invariant
    (subst (λ (it : PlanRow). HasRule c.args.security it.demand) row.is (c.if-not-has_rule.ensures.yes refl))

pub returns : goal.returns
returns c =
    rw (take_all c.loop-index.index c.args.rows.now (omega (arith, c.loop-index-test.false))) at c.loop-index.invariant
