use Rattle.pmp_core.proofs.WordTests.{off_below}
use Rattle.pmp_core.proofs.configuration_word.count_off.Goals as goal

pub returns-clause-off : goal.returns-clause-off
returns-clause-off c j near = off_below c.args.word j near
