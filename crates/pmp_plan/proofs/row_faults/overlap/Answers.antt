use Rattle.std.proofs.Common.{arith, refl, length}
use Rattle.std.proofs.lemmas.Option.{slice_get_read}
use Rattle.pmp_plan.proofs.row_faults.overlap.Goals as goal

pub returns-then-not-are_apart : goal.returns-then-not-are_apart
returns-then-not-are_apart c =
    let rows = c.args.rows.now in
    let one = c.index-rows-row in
    let other = c.index-rows-other in
    let (byte, here, there) = c.if-not-are_apart.ensures.no refl in
    let order = c.loop-other.auto.other in
    let first = slice_get_read rows (length rows) _ one.result refl (omega (arith, c.loop-row-test.true)) one.is in
    let second =
    slice_get_read rows (length rows) _ other.result refl (omega (arith, c.loop-other-test.true)) other.is in record {
      order = omega (arith, order);
      byte = byte;
      one = (one.result, first, here);
      second = (other.result, second, there);
    }
