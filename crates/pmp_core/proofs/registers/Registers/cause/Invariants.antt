use Rattle.std.proofs.Common.{◌≡◌, ◌-◌, drop, length}
use Rattle.pmp_core.specs.Ranges.{cause_from, cause_of, ranges_of}
use Rattle.pmp_core.proofs.registers.Registers.cause.Given as goal

abbrev pub invariant-loop-index : goal.invariant-loop-index
invariant-loop-index l =
    cause_of l.self l.start l.end ≡ cause_from l.start l.end l.index (drop l.index (ranges_of l.self))

abbrev pub decreases-loop-index : goal.decreases-loop-index
decreases-loop-index l = length l.self.entries - l.index
