use Rattle.pmp_text.proofs.LeastPolicyRows.{first_policy_row_is_least, least_policy_row_is_answered}
use Rattle.pmp_text.proofs.laws.law_least_policy_fault.Goals as goal

pub returns : goal.returns
returns c = record { first = first_policy_row_is_least; answered = least_policy_row_is_answered }
