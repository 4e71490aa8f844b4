use Rattle.std.proofs.Common.{None}
use Rattle.pmp_audit.specs.AccessCheck.{CheckSays}
use Rattle.pmp_audit.specs.AskedFile.{FileRefuses}
use Rattle.pmp_audit.proofs.WrittenAnswers.{refused_rows, written_rows}
use Rattle.pmp_audit.proofs.sized.check_any.Goals as goal

pub returns-clause-ok : goal.returns-clause-ok
returns-clause-ok g c =
    written_rows (CheckSays c.args.script.now c.args.access.now None) _ _ _ _ _ _ _ c.write_answer.ensures.ok
    c.add_check-made.ensures.ok c.new-text.ensures.items c.deref.ensures.value

pub returns-clause-err : goal.returns-clause-err
returns-clause-err g c =
    refused_rows (CheckSays c.args.script.now c.args.access.now None) _ _ _ _ _ _ (FileRefuses c.args.script.now None) _
    c.write_answer.ensures.err c.add_check-made.ensures.ok c.new-text.ensures.items c.deref.ensures.value
    c.add_check-made.ensures.err
