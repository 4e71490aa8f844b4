use Rattle.std.proofs.Common.{arith, inl, inr}
use Rattle.std.proofs.lemmas.Bool.{cases_lt, ltb-false}
use Rattle.pmp_plan.proofs.Giving.{in_row}
use Rattle.pmp_plan.proofs.row_faults.are_apart.Goals as goal

pub returns-else-one-other-clause-no : goal.returns-else-one-other-clause-no
returns-else-one-other-clause-no c is_not =
    let one = c.args.one.now in
    let other = c.args.other.now in
    let before = ltb-false other.last one.first is_not in
    let behind = c.if-one-other.false in
    elim (cases_lt one.first other.first) [
      | inl less ↦ (
        other.first,
        in_row one other.first (omega (arith, less)) (omega (arith, behind)),
        in_row other other.first (omega arith) other.ordered,
      )
      | inr more ↦ (
        one.first,
        in_row one one.first (omega arith) one.ordered,
        in_row other one.first more before,
      )
    ]
