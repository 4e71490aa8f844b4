use Rattle.pmp_lint.proofs.OwnedBytes.{owns_nothing}
use Rattle.pmp_lint.proofs.laws.law_owns_nothing.Goals as goal

pub returns : goal.returns
returns c = owns_nothing
