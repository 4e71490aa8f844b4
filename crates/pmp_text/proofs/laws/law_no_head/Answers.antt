use Rattle.pmp_text.proofs.Versions.{no_head_law}
use Rattle.pmp_text.proofs.laws.law_no_head.Goals as goal

pub returns : goal.returns
returns c = no_head_law
