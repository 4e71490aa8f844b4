use Rattle.pmp_core.proofs.HartNumbers.{named_16, named_64, named_spelled, named_unmarked}
use Rattle.pmp_core.proofs.hart.Hart.named.Goals as goal
use Rattle.pmp_core.proofs.hart.Hart.named.Goals.{then-number-eq16-via-then-number-eq16, then-number-eq16-via-else-number-eq16+then-number-eq64}

pub returns-then-number-eq16 : goal.returns-then-number-eq16
returns-then-number-eq16 c = (
  elim c.then-number-eq16.branch [
    | then-number-eq16-via-then-number-eq16 w ↦ named_16 c.args.number w.if-number-eq16.true
    | then-number-eq16-via-else-number-eq16+then-number-eq64 w ↦ named_64 c.args.number w.if-number-eq64.true
  ],
  c.from_number.ensures,
)

pub returns-then-number-ne1 : goal.returns-then-number-ne1
returns-then-number-ne1 c =
    named_unmarked c.args.number c.if-number-eq16.false c.if-number-eq64.false c.if-number-ne1.true

pub returns : goal.returns
returns c = named_spelled c.args.number c.if-number-eq16.false c.if-number-eq64.false c.spelled.result c.spelled.ensures
