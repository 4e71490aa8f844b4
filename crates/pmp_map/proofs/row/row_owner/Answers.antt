use Rattle.std.proofs.Common.{sym, arith}
use Rattle.pmp_map.proofs.Answering.{owned_by_cause, row_cause, unowned_by_cause}
use Rattle.pmp_map.proofs.row.row_owner.Goals as goal

pub returns-then-cause-lt256 : goal.returns-then-cause-lt256
returns-then-cause-lt256 c = λ file owner is.
    sym (owned_by_cause owner _ (sym (row_cause file owner c.args.row.now is)) (omega arith))

pub returns-else-cause-lt256 : goal.returns-else-cause-lt256
returns-else-cause-lt256 c = λ file owner is.
    sym (unowned_by_cause owner is.number (omega (arith, row_cause file owner c.args.row.now is)))
