use Rattle.std.proofs.Common.{None}
use Rattle.pmp_audit.specs.AskedFile.{FileRefuses}
use Rattle.pmp_audit.specs.View.{ViewSays}
use Rattle.pmp_audit.specs.declared.view.View.TheVariants.{Registers}
use Rattle.pmp_audit.proofs.WrittenAnswers.{refused_so}
use Rattle.pmp_audit.proofs.sized.show_registers.Goals as goal

pub returns-clause-err : goal.returns-clause-err
returns-clause-err g c =
    refused_so (ViewSays Registers None c.args.script.now c.args.after) _ _ _ _ _ _ (FileRefuses c.args.script.now c.args.after) _
    c.write_answer.ensures.err c.append_view-made.ensures.ok c.new-text.ensures.items c.deref.ensures.value
    c.append_view-made.ensures.err
