use Rattle.pmp_text.proofs.AddedRows.{some_and_some}
use Rattle.pmp_audit.proofs.write_list.add_all.Goals as goal

pub returns-in_err-differing-clause-err : goal.returns-in_err-differing-clause-err
returns-in_err-differing-clause-err g c =
    some_and_some g.R.RowSink.Adds g.met.R.RowSink.both _ _ _ _ (_, c.in_ok-events.ensures.rows)
    c.in_err-differing.ensures.err
