use Rattle.std.proofs.Common.{◌∙◌, sym}
use Rattle.pmp_tool.proofs.Running.{keeps_at_two}
use Rattle.pmp_tool.proofs.run.run_tool.Goals as goal

pub returns-in-Ok-clause-answered : goal.returns-in-Ok-clause-answered
returns-in-Ok-clause-answered g c =
    λ few. (c.in-Ok.outcome, c.status.ensures, c.in-Ok.ensures.ok, c.tell_note.ensures)

pub returns-in-Err-clause-failed : goal.returns-in-Err-clause-failed
returns-in-Err-clause-failed g c =
    λ many. (c.in-Err.failure, c.status-in-Err.ensures.value, c.in-Err.ensures.err, c.tell_and_explain.ensures)

pub returns-in-Err-clause-untouched : goal.returns-in-Err-clause-untouched
returns-in-Err-clause-untouched g c =
    λ two. keeps_at_two c.in-Err.ensures.err (sym c.status-in-Err.ensures.value ∙ two)
