use Rattle.std.proofs.Common.{arith, refl, subst, sym}
use Rattle.std.proofs.lemmas.List.{take_all}
use Rattle.std.proofs.lemmas.List.Elements.{All-more}
use Rattle.pmp_plan.specs.declared.plan_row.PlanRow.{PlanRow}
use Rattle.pmp_plan.specs.Plans.{MeetsRow}
use Rattle.pmp_plan.proofs.Giving.{in_row, row_has}
use Rattle.pmp_plan.proofs.judge.meets_rows.Goals as goal

pub returns-then-not-gives-clause-no : goal.returns-then-not-gives-clause-no
returns-then-not-gives-clause-no c all =
    let row = c.row-item.result in
    let here = all c.loop-row.row-index row c.loop-row-test.true in
    let met = subst (λ (it : PlanRow). MeetsRow c.args.registers.now it) (sym c.row-item.is) here in
    c.if-not-gives.ensures.no (λ byte from to. met byte (in_row row byte from to))

pub loop-row-preserved : goal.loop-row-preserved
loop-row-preserved c =
    let row = c.row-item.result in
    let met : MeetsRow c.args.registers.now row =
    λ byte is. let has = row_has row byte is in c.if-not-gives.ensures.yes refl byte has.0 has.1 in
    All-more (MeetsRow c.args.registers.now) c.args.rows.now c.loop-row.row-index row c.loop-row-test.true
    c.loop-row.invariant (subst (λ (it : PlanRow). MeetsRow c.args.registers.now it) c.row-item.is met)

pub returns-clause-yes : goal.returns-clause-yes
returns-clause-yes c _ =
    rw (take_all c.loop-row.row-index c.args.rows.now (omega (arith, c.loop-row-test.false))) at c.loop-row.invariant
