use Rattle.pmp_share.proofs.LaterLooks.{later_look_law}
use Rattle.pmp_share.proofs.laws.law_later_look.Goals as goal

pub returns : goal.returns
returns c = later_look_law c.law_frozen.ensures
