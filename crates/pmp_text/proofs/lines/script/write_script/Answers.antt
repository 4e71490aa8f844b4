use Rattle.std.proofs.Common.{rules}
use Rattle.pmp_text.proofs.lines.script.write_script.Goals as goal

-- an answer, and so not left to wait for the proofs of what is called
pub returns-clause-ok : goal.returns-clause-ok
returns-clause-ok g c = search rules
