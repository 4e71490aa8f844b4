use Rattle.std.proofs.lemmas.Result.{IfErr-weaker}
use Rattle.pmp_tool.specs.Questions.{no_script, of_script}
use Rattle.pmp_tool.proofs.questions.add_answer.Goals as goal

pub returns-in-Ok-clause-err : goal.returns-in-Ok-clause-err
returns-in-Ok-clause-err g c =
    IfErr-weaker c.add_rows.result _ _
    (λ failure fails. of_script c.in-Ok.script.items failure c.in-Ok.ensures.read fails)
    (rw (c.deref.ensures.value, c.in-Ok.ensures.paths) at c.add_rows.ensures.err)

pub returns-in-Err-clause-err : goal.returns-in-Err-clause-err
returns-in-Err-clause-err g c =
    rw (c.unscripted.ensures, c.unread.ensures, c.script_source.ensures, c.listed_at.ensures)
    (no_script c.in-Err.refusal c.in-Err.ensures.unread)
