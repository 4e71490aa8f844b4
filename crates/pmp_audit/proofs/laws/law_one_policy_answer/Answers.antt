use Rattle.pmp_audit.proofs.OnePolicyAnswer.{one_policy_answer}
use Rattle.pmp_audit.proofs.laws.law_one_policy_answer.Goals as goal

pub returns : goal.returns
returns c = one_policy_answer
