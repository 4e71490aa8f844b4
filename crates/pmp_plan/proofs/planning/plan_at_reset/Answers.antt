use Rattle.std.proofs.Common.{◌≡◌, ◌≤◌, arith, false, inr, nat_eq, refl, [], length, List, Result, Ok, Err, IfOk}
use Rattle.std.proofs.lemmas.Bool.{false≢true}
use Rattle.pmp_text.specs.declared.fault.Fault.{Fault}
use Rattle.pmp_plan.specs.declared.plan_row.PlanRow.{PlanRow}
use Rattle.pmp_plan.specs.declared.planning.Planned.{Planned}
use Rattle.pmp_plan.specs.PlanFaults.{few_entries}
use Rattle.pmp_plan.proofs.NoRows.{no_rows}
use Rattle.pmp_plan.proofs.planning.plan_at_reset.Goals as goal

-- with rows, nothing is said of the number of writes
with_rows : (rows : List PlanRow) → false ≡ nat_eq (length rows) 0 → (result : Result Planned Fault)
    → IfOk result (λ planned. rows ≡ [] → length planned.writes.items ≤ 1)
with_rows rows some (Ok planned) = λ none. absurd (false≢true (rw none at some))
with_rows rows some (Err why) = tt

pub returns-then-not-is_empty-clause-few : goal.returns-then-not-is_empty-clause-few
returns-then-not-is_empty-clause-few c = with_rows c.args.rows.now c.if-not-is_empty.ensures _

pub returns-then-entries-eq0-clause-err : goal.returns-then-entries-eq0-clause-err
returns-then-entries-eq0-clause-err c =
    let none = no_rows c.args.rows.now c.if-not-is_empty.ensures in
    rw c.too_few.ensures (few_entries 1 0 0 c.in_ok-check_plan.ensures.ok
    (omega (arith, c.entries.ensures.count, c.if-entries-eq0.true))
    (inr (none, omega (arith, c.entries.ensures.count, c.if-entries-eq0.true), refl, refl))
    (λ few. (
      c.of_no_rows-planned.result.writes.items,
      rw none (c.of_no_rows-planned.ensures.made 1 (omega arith)),
    )))

pub returns-clause-made : goal.returns-clause-made
returns-clause-made c =
    rw (no_rows c.args.rows.now c.if-not-is_empty.ensures)
    (c.of_no_rows-planned.ensures.made c.args.hart.entries
    (omega (arith, c.entries.ensures.count, c.if-entries-eq0.false)))
