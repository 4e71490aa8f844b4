use Rattle.pmp_core.proofs.WordTests.{plain_byte}
use Rattle.pmp_core.proofs.configuration_word.plain.Goals as goal

pub returns : goal.returns
returns c = plain_byte c.args.word
