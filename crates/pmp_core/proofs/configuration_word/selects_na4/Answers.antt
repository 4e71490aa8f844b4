use Rattle.std.proofs.Common.{◌-◌, ◌/◌, bit_and}
use Rattle.pmp_core.proofs.WordBytes.{are_flags}
use Rattle.pmp_core.proofs.WordTests.{na4_byte}
use Rattle.pmp_core.proofs.configuration_word.selects_na4.Goals as goal

pub returns-clause-flags : goal.returns-clause-flags
returns-clause-flags c = are_flags (bit_and (c.args.word / 16) (18446744073709551615 - c.args.word / 8))

pub returns-clause-bytes : goal.returns-clause-bytes
returns-clause-bytes c = na4_byte c.args.word c.ranges.word.fits
