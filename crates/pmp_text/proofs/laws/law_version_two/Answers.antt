use Rattle.pmp_text.proofs.Versions.{version_two}
use Rattle.pmp_text.proofs.laws.law_version_two.Goals as goal

pub returns : goal.returns
returns c = version_two c.law_sizes.ensures
