use Rattle.std.proofs.Common.{◌≡◌, length, take}
use Rattle.std.specs.List.{AllZip}
use Rattle.pmp_share.specs.Known.{IsDecidedIn}
use Rattle.pmp_share.proofs.question.GroupQuestion.ask.Given as goal

abbrev pub invariant-loop-access : goal.invariant-loop-access
invariant-loop-access g l =
    AllZip (IsDecidedIn (g.D.Decider.known l.decider)) (take l.access-index l.self.accesses.now) l.decisions.items
    × (length l.decisions.items ≡ l.access-index)
