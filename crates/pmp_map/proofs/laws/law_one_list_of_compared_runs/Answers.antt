use Rattle.std.proofs.Common.{refl}
use Rattle.pmp_core.specs.declared.access.TheConstants.{ADDRESS_LIMIT}
use Rattle.pmp_map.proofs.ComparedRuns.{one_list}
use Rattle.pmp_map.proofs.laws.law_one_list_of_compared_runs.Goals as goal

pub returns : goal.returns
returns c aspect old new one other p q = one_list aspect old new 0 ADDRESS_LIMIT one other p q refl
