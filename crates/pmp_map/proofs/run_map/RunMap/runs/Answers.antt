use Rattle.std.proofs.Common.{rules}
use Rattle.pmp_core.proofs.Legal.{legal_addresses}
use Rattle.pmp_map.proofs.Entries.{few_runs_of_entries, owners_below}
use Rattle.pmp_map.proofs.run_map.RunMap.runs.Goals as goal

pub returns-clause-few : goal.returns-clause-few
returns-clause-few c = search (rules, few_runs_of_entries, legal_addresses)

pub returns-clause-owners : goal.returns-clause-owners
returns-clause-owners c = search (rules, owners_below)
