use Rattle.pmp_audit.proofs.EntriesSince.{since_law}
use Rattle.pmp_audit.proofs.laws.law_since.Goals as goal

pub returns : goal.returns
returns c = since_law c.law_protected.ensures
