use Rattle.pmp_core.proofs.Protection.{protected_law}
use Rattle.pmp_core.proofs.laws.law_protected.Goals as goal

pub returns : goal.returns
returns c = protected_law c.law_fewer_rights.ensures
