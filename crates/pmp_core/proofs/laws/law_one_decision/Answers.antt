use Rattle.pmp_core.proofs.Decisions.{one_decision}
use Rattle.pmp_core.proofs.laws.law_one_decision.Goals as goal

pub returns : goal.returns
returns c = one_decision
