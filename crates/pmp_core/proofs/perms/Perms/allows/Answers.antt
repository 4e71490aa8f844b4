use Rattle.pmp_core.proofs.Flags.{right_is_bit}
use Rattle.pmp_core.proofs.perms.Perms.allows.Goals as goal

pub returns-clause-by_bit : goal.returns-clause-by_bit
returns-clause-by_bit c = rw (c.contains.ensures tt, c.of_kind.ensures) (right_is_bit c.args.self.0 c.args.kind)
