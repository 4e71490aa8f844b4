use Rattle.std.proofs.Common.{rules}
use Rattle.pmp_core.proofs.Legal.{legal_addresses}
use Rattle.pmp_map.proofs.Painted.{blank_cuts, owners_of, up_alike}
use Rattle.pmp_map.proofs.painting.cuts_of.Goals as goal

pub loop-index-init : goal.loop-index-init
loop-index-init c = search (rules, blank_cuts)

pub returns-clause-cuts : goal.returns-clause-cuts
returns-clause-cuts c = search (rules, legal_addresses, owners_of, up_alike)
