use Rattle.pmp_core.proofs.Moves.{moved_law}
use Rattle.pmp_core.proofs.laws.law_moved.Goals as goal

pub returns : goal.returns
returns c = moved_law
