use Rattle.std.proofs.Common.{rules}
use Rattle.pmp_text.proofs.script.reading.ScriptReading.take_statement.Goals as goal

pub returns-in_ok-expect-in-Ok-Expect-clause-taken : goal.returns-in_ok-expect-in-Ok-Expect-clause-taken
returns-in_ok-expect-in-Ok-Expect-clause-taken g c = search rules

pub returns-in-Err-clause-taken : goal.returns-in-Err-clause-taken
returns-in-Err-clause-taken g c = search rules
