use Rattle.std.proofs.Common.{◌-◌, ◌≡◌, ◌<◌, ◌≤◌}
use Rattle.pmp_core.specs.declared.access.TheConstants.{ADDRESS_LIMIT}
use Rattle.pmp_map.proofs.ComparedRuns.{AreComparedTo}
use Rattle.pmp_map.proofs.compared_run.compared_run_from.Given as goal

abbrev pub invariant-loop-run : goal.invariant-loop-run
invariant-loop-run l =
    (l.run.first ≡ l.first) × (l.first ≤ l.run.last) × (l.run.last < ADDRESS_LIMIT)
    × AreComparedTo l.aspect l.old l.new l.run

abbrev pub decreases-loop-run : goal.decreases-loop-run
decreases-loop-run l = ADDRESS_LIMIT - l.run.last
