use Rattle.std.proofs.Common.{arith}
use Rattle.pmp_map.specs.Runs.{IsInRun}
use Rattle.pmp_map.proofs.compared_run.owned_from.Goals as goal

pub returns-clause-both : goal.returns-clause-both
returns-clause-both c byte from to =
    let old = c.run_around-before in
    let new = c.run_around-after in
    let in_old : IsInRun old.result byte =
    (omega (arith, old.ensures.run.here.0, from), omega (arith, c.min.ensures, to)) in
    let in_new : IsInRun new.result byte =
    (omega (arith, new.ensures.run.here.0, from), omega (arith, c.min.ensures, to)) in
    record {
      old_owner = old.result.owner;
      new_owner = new.result.owner;
      owns_old = old.ensures.run.owned byte in_old;
      owns_new = new.ensures.run.owned byte in_new;
      both_are = c.of_owners.ensures;
    }
