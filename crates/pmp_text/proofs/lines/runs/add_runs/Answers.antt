use Rattle.pmp_text.proofs.AddedRows.{left_none}
use Rattle.pmp_text.proofs.lines.runs.add_runs.Goals as goal

pub returns-then-is_err-clause-err : goal.returns-then-is_err-clause-err
returns-then-is_err-clause-err g c =
    left_none g.R.RowSink.Adds c.add_all-added.result _ _ _
    (λ rows added. c.go_back.ensures rows c.args.out.now c.position-before.ensures added) c.add_all-added.ensures.err
