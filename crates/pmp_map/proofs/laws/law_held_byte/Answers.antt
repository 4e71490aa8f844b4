use Rattle.pmp_map.proofs.OpenBytes.{held_byte}
use Rattle.pmp_map.proofs.laws.law_held_byte.Goals as goal

pub returns : goal.returns
returns c = held_byte c.law_matching_entry.ensures c.law_protected.ensures
