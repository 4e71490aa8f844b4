use Rattle.std.proofs.Common.{arith}
use Rattle.std.proofs.lemmas.Grind.{common_steps}
use Rattle.pmp_text.proofs.lines.script.gives_back.Goals as goal

pub returns-then-batches-eq0 : goal.returns-then-batches-eq0
returns-then-batches-eq0 c = grind (arith, common_steps)
