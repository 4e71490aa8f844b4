use Rattle.pmp_core.proofs.Parts.{parts_law}
use Rattle.pmp_core.proofs.laws.law_parts.Goals as goal

pub returns : goal.returns
returns c = parts_law
