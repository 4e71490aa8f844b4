use Rattle.pmp_core.proofs.Sizes.{size_law}
use Rattle.pmp_core.proofs.laws.law_sizes.Goals as goal

pub returns : goal.returns
returns c = size_law
