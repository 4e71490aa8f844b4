use Rattle.pmp_text.proofs.Starts.{legal_start}
use Rattle.pmp_text.proofs.laws.law_legal_start.Goals as goal

pub returns : goal.returns
returns c = legal_start
