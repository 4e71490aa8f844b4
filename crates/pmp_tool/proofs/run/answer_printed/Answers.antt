use Rattle.std.proofs.lemmas.Result.{IfOk-weaker}
use Rattle.pmp_tool.specs.Runs.{prints}
use Rattle.pmp_tool.proofs.run.answer_printed.Goals as goal

pub returns-in_default-clause-ok : goal.returns-in_default-clause-ok
returns-in_default-clause-ok g c = rw c.print.ensures.paths (IfOk-weaker c.print.result _ _
    (λ outcome says. prints c.args.printed outcome says.0 says.1 says.2) c.print.ensures.ok)
