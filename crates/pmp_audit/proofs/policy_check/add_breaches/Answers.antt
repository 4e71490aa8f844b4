use Rattle.pmp_text.proofs.AddedRows.{left_some}
use Rattle.pmp_audit.proofs.policy_check.add_breaches.Goals as goal

pub returns-in_err-add_verdict-clause-err : goal.returns-in_err-add_verdict-clause-err
returns-in_err-add_verdict-clause-err g c =
    left_some g.R.RowSink.Adds g.met.R.RowSink.both _ _ _ _ _ c.loop-breach.invariant c.in_err-add_verdict.ensures.err
