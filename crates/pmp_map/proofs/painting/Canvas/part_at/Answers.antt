use Rattle.std.proofs.Common.{rules}
use Rattle.pmp_map.proofs.Painted.{moved_up}
use Rattle.pmp_map.proofs.painting.Canvas.part_at.Goals as goal

pub loop-cut-preserved : goal.loop-cut-preserved
loop-cut-preserved c = search (rules, moved_up)
