use Rattle.std.proofs.Common.{arith}
use Rattle.std.proofs.lemmas.Grind.{common_steps}
use Rattle.pmp_text.proofs.access_words.read_mode.Goals as goal

pub returns-in-S : goal.returns-in-S
returns-in-S c = grind (arith, common_steps)
