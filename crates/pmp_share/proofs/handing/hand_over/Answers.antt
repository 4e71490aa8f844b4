use Rattle.std.proofs.Common.{arith}
use Rattle.std.proofs.lemmas.Grind.{common_steps}
use Rattle.pmp_share.proofs.handing.hand_over.Goals as goal

pub loop-handed-preserved : goal.loop-handed-preserved
loop-handed-preserved c = grind (arith, common_steps)
