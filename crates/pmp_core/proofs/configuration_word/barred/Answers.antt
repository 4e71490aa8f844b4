use Rattle.std.proofs.Common.{◌-◌, ◌/◌, bit_and, bit_or}
use Rattle.pmp_core.proofs.WordBytes.{are_flags}
use Rattle.pmp_core.proofs.WordTests.{barred_byte}
use Rattle.pmp_core.proofs.configuration_word.barred.Goals as goal

pub returns-clause-flags : goal.returns-clause-flags
returns-clause-flags c = are_flags (bit_and (c.args.word / 128) (bit_or (bit_and (c.args.word / 4) (18446744073709551615 - c.args.word / 2)) (bit_and (c.args.word / 2) (18446744073709551615 - c.args.word))))

pub returns-clause-bytes : goal.returns-clause-bytes
returns-clause-bytes c = barred_byte c.args.word c.ranges.word.fits
