use Rattle.pmp_core.proofs.WordBytes.{chosen_byte}
use Rattle.pmp_core.proofs.configuration_word.chosen.Goals as goal

pub returns : goal.returns
returns c = chosen_byte c.args.flags c.args.one c.args.other c.requires
