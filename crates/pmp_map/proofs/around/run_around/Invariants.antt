use Rattle.std.proofs.Common.{◌-◌, length}
use Rattle.pmp_map.proofs.CutFacts.{Swept, SweptDown}
use Rattle.pmp_map.proofs.around.run_around.Given as goal

abbrev pub invariant-loop-index : goal.invariant-loop-index
invariant-loop-index l = SweptDown l.registers l.byte l.index l.first × Swept l.registers l.byte l.index l.end

abbrev pub decreases-loop-index : goal.decreases-loop-index
decreases-loop-index l = length l.registers.entries - l.index
