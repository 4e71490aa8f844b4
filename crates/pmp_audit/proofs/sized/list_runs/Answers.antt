use Rattle.pmp_audit.specs.AskedFile.{FileRefuses}
use Rattle.pmp_audit.specs.View.{ListingSays}
use Rattle.pmp_audit.specs.declared.view.Listing.TheVariants.{Runs}
use Rattle.pmp_audit.proofs.WrittenAnswers.{refused_rows, written_rows}
use Rattle.pmp_audit.proofs.sized.list_runs.Goals as goal

pub returns-clause-ok : goal.returns-clause-ok
returns-clause-ok g c =
    written_rows (ListingSays Runs c.args.script.now c.args.after) _ _ _ _ _ _ _ c.write_answer.ensures.ok
    c.add_listing-made.ensures.ok c.new-text.ensures.items c.deref.ensures.value

pub returns-clause-err : goal.returns-clause-err
returns-clause-err g c =
    refused_rows (ListingSays Runs c.args.script.now c.args.after) _ _ _ _ _ _ (FileRefuses c.args.script.now c.args.after) _
    c.write_answer.ensures.err c.add_listing-made.ensures.ok c.new-text.ensures.items c.deref.ensures.value
    c.add_listing-made.ensures.err
