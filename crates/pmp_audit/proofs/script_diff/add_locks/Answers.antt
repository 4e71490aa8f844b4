use Rattle.pmp_audit.proofs.Differences.{none_asked}
use Rattle.pmp_audit.proofs.script_diff.add_locks.Goals as goal

pub returns-else-asked-clause-ok : goal.returns-else-asked-clause-ok
returns-else-asked-clause-ok g c =
    none_asked g.R.RowSink.Adds g.met.R.RowSink.none g.met.R.RowSink.both c.args.old.now c.args.new.now
    c.args.asked.only c.args.asked.has_locks c.args.out.now c.if-asked.false
