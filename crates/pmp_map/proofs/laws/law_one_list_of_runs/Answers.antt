use Rattle.pmp_map.proofs.OneList.{one_list_of_runs}
use Rattle.pmp_map.proofs.laws.law_one_list_of_runs.Goals as goal

pub returns : goal.returns
returns c = one_list_of_runs
