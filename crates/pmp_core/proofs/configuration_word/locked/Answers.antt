use Rattle.std.proofs.Common.{◌/◌}
use Rattle.pmp_core.proofs.WordBytes.{are_flags}
use Rattle.pmp_core.proofs.WordTests.{locked_byte}
use Rattle.pmp_core.proofs.configuration_word.locked.Goals as goal

pub returns-clause-flags : goal.returns-clause-flags
returns-clause-flags c = are_flags (c.args.word / 128)

pub returns-clause-bytes : goal.returns-clause-bytes
returns-clause-bytes c = locked_byte c.args.word c.ranges.word.fits
