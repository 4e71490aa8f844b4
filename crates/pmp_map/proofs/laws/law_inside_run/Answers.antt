use Rattle.pmp_map.proofs.DecidedRuns.{inside_run}
use Rattle.pmp_map.proofs.laws.law_inside_run.Goals as goal

pub returns : goal.returns
returns c = inside_run
