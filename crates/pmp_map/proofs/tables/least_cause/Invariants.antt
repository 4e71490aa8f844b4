use Rattle.std.proofs.Common.{◌≤◌}
use Rattle.pmp_map.specs.Causes.{IsLeastCause}
use Rattle.pmp_map.proofs.tables.least_cause.Given as goal

abbrev pub invariant-loop-place : goal.invariant-loop-place
invariant-loop-place l = (l.least ≤ 512) × IsLeastCause l.rows l.first l.place l.least
