use Rattle.pmp_core.proofs.Xlen.{xlen_law}
use Rattle.pmp_core.proofs.laws.law_xlen.Goals as goal

pub returns : goal.returns
returns c = xlen_law
