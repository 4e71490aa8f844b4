use Rattle.std.proofs.Common.{◌≡◌, map}
use Rattle.std.specs.List.{AllZip}
use Rattle.pmp_core.specs.Ranges.{decision_of}
use Rattle.pmp_share.specs.Known.{file_of}
use Rattle.pmp_share.specs.Object.{Decides}
use Rattle.pmp_share.proofs.GroupFacts.{related_and_computed}
use Rattle.pmp_share.proofs.checker.Checker.decide_group.Goals as goal
use Rattle.pmp_share.proofs.checker.Checker.decide_group.Goals.{After-look}

decided : (c : After-look) → AllZip (Decides c.look.new.self.unit.base c.look.new.self.list) c.args.accesses.now
    c.look.result.0.items × (c.look.result.0.items ≡ map (decision_of (file_of c.look.new.self)) c.args.accesses.now)
decided c = related_and_computed (Decides c.look.new.self.unit.base c.look.new.self.list)
    (decision_of (file_of c.look.new.self)) c.args.accesses.now c.look.result.0.items c.look.ensures.answered

pub returns-clause-decided : goal.returns-clause-decided
returns-clause-decided c = (decided c).0

pub returns-clause-computed : goal.returns-clause-computed
returns-clause-computed c = (decided c).1
