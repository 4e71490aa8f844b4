use Rattle.std.proofs.Common.{rules}
use Rattle.pmp_share.proofs.version.VersionAbsorbLoggedBatch.absorb_first.Goals as goal

pub invariant_of-self-2 : goal.invariant_of-self-2
invariant_of-self-2 c = record {
  replayed = c.grow.ensures.replayed c.args.self.now.base.value c.args.self.now.replayed;
  mapped = c.grow.ensures.mapped;
}

pub returns-clause-absorbed : goal.returns-clause-absorbed
returns-clause-absorbed c = rw c.in_ok-grow.ensures.added (search rules)
