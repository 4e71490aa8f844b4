use Rattle.std.proofs.Common.{◌-◌}
use Rattle.pmp_core.specs.declared.access.TheConstants.{ADDRESS_LIMIT}
use Rattle.pmp_audit.proofs.Differences.{AreWrittenTo}
use Rattle.pmp_audit.proofs.script_diff.add_differences.Given as goal

-- the rows of the ranges below `first`
abbrev pub invariant-loop-first : goal.invariant-loop-first
invariant-loop-first g l = AreWrittenTo g.R.RowSink.Adds l.aspect l.old l.new l.only l.fn.out l.first l.rows l.out

abbrev pub decreases-loop-first : goal.decreases-loop-first
decreases-loop-first g l = ADDRESS_LIMIT - l.first
