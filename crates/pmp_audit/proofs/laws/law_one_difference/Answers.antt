use Rattle.pmp_audit.proofs.OneDifference.{one_difference}
use Rattle.pmp_audit.proofs.laws.law_one_difference.Goals as goal

pub returns : goal.returns
returns c = one_difference c.law_one_list_of_compared_runs.ensures
