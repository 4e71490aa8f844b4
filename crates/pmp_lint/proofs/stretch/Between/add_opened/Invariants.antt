use Rattle.std.proofs.Common.{◌-◌}
use Rattle.pmp_core.specs.declared.access.TheConstants.{ADDRESS_LIMIT}
use Rattle.pmp_lint.specs.Telling.{telling}
use Rattle.pmp_lint.proofs.Stretches.{AreToldTo}
use Rattle.pmp_lint.proofs.stretch.Between.add_opened.Given as goal

-- the ranges below `first`
abbrev pub invariant-loop-first : goal.invariant-loop-first
invariant-loop-first g l =
    AreToldTo l.self.before.now l.self.during.now l.self.after.now g.R.RowSink.Adds g.met.R.RowSink.none g.met.R.RowSink.both
    l.line (telling l.fn.out l.fn.told) l.first (telling l.out l.told)

abbrev pub decreases-loop-first : goal.decreases-loop-first
decreases-loop-first g l = ADDRESS_LIMIT - l.first
