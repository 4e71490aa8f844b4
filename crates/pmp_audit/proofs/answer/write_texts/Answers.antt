use Rattle.std.proofs.Common.{rules, ◌≡◌, Err}
use Rattle.pmp_audit.proofs.LongParts.{partly_written}
use Rattle.pmp_audit.proofs.answer.write_texts.Goals as goal

pub returns-in_err-write_out-clause-err : goal.returns-in_err-write_out-clause-err
returns-in_err-write_out-clause-err g c =
    let stopped : c.from_residual.result ≡ Err c.in_err-write_out.field-0.0 = search rules in
    rw stopped (partly_written c.args.texts.now c.loop-part.part-index c.part-item.result c.loop-part-test.true
    c.part-item.is _ _ _ c.loop-part.invariant (rw c.deref.ensures.value at c.in_err-write_out.ensures.err))
