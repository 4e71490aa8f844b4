use Rattle.std.proofs.Common.{ℕ, ◌-◌, ◌<◌}
use Rattle.pmp_core.specs.declared.access.TheConstants.{ADDRESS_LIMIT}
use Rattle.pmp_plan.proofs.Answering.{StaysAt}
use Rattle.pmp_plan.proofs.passing.Passage.stays.Given as goal

-- the bytes before this one stay as they are
abbrev pub invariant-loop-at : goal.invariant-loop-at
invariant-loop-at l =
    (byte : ℕ) → byte < l.at → StaysAt l.watch l.self.before.now l.self.during.now l.self.after.now byte

abbrev pub decreases-loop-at : goal.decreases-loop-at
decreases-loop-at l = ADDRESS_LIMIT - l.at
