use Rattle.std.proofs.Common.{arith}
use Rattle.pmp_map.specs.Runs.{IsInRun}
use Rattle.pmp_plan.proofs.passing.Passage.rights_from.Goals as goal

pub returns-clause-alike : goal.returns-clause-alike
returns-clause-alike c byte from to =
    let before = c.run_around-before in
    let during = c.run_around-during in
    let after = c.run_around-after in
    let in_before : IsInRun before.result byte =
    (omega (arith, before.ensures.run.here.0, from), omega (arith, c.min.ensures, c.min-2.ensures, to)) in
    let in_during : IsInRun during.result byte =
    (omega (arith, during.ensures.run.here.0, from), omega (arith, c.min.ensures, c.min-2.ensures, to)) in
    let in_after : IsInRun after.result byte =
    (omega (arith, after.ensures.run.here.0, from), omega (arith, c.min.ensures, c.min-2.ensures, to)) in
    record {
      earlier = (before.result.owner, before.ensures.run.owned byte in_before, c.of_owner-earlier.ensures);
      meanwhile = (during.result.owner, during.ensures.run.owned byte in_during, c.of_owner-meanwhile.ensures);
      later = (after.result.owner, after.ensures.run.owned byte in_after, c.of_owner-later.ensures);
    }
