use Rattle.std.proofs.Common.{inl, length, refl, subst}
use Rattle.std.proofs.lemmas.List.Elements.{All-more}
use Rattle.std.proofs.lemmas.Option.{slice_get_read}
use Rattle.pmp_plan.specs.declared.plan_row.PlanRow.{PlanRow}
use Rattle.pmp_plan.specs.PlanFaults.{IsFit, of_row, overlap}
use Rattle.pmp_plan.proofs.row_faults.check_rows.Goals as goal

pub returns-in-Some-clause-err : goal.returns-in-Some-clause-err
returns-in-Some-clause-err c security =
    rw c.two_rows.ensures (overlap c.in-Some.row c.in-Some.other c.in-Some.ensures)

pub returns-in-Some-flaw_of-clause-err : goal.returns-in-Some-flaw_of-clause-err
returns-in-Some-flaw_of-clause-err c security =
    let rows = c.args.rows.now in
    let row = c.index-rows-index in
    let index = c.loop-index.index in
    rw c.in_row.ensures (of_row index row.result c.in-Some-flaw_of.flaw
    (slice_get_read rows (length rows) index row.result refl c.loop-index-test.true row.is)
    (inl c.in-Some-flaw_of.ensures))

pub loop-index-preserved : goal.loop-index-preserved
loop-index-preserved c =
    let row = c.index-rows-index in
    All-more (IsFit c.args.hart) c.args.rows.now c.loop-index.index row.result c.loop-index-test.true
    c.loop-index.invariant (subst (λ (it : PlanRow). IsFit c.args.hart it) row.is c.in_default-flaw_of.ensures)
