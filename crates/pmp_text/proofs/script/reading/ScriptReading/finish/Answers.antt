use Rattle.std.proofs.Common.{rules}
use Rattle.pmp_text.proofs.script.reading.ScriptReading.finish.Goals as goal

-- answers, and so not left to wait for the proofs of what is called
pub returns-in-Some-clause-err : goal.returns-in-Some-clause-err
returns-in-Some-clause-err g c = search rules

pub returns-in-Sized-clause-ok : goal.returns-in-Sized-clause-ok
returns-in-Sized-clause-ok g c = search rules
