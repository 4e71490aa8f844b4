use Rattle.std.specs.Prelude.{None}
use Rattle.pmp_map.specs.declared.run.Run.{Run}
use Rattle.pmp_text.specs.RunRows.{run_row}
use Rattle.pmp_text.proofs.AddedRows.{left_some, one_more}
use Rattle.pmp_text.proofs.RunLines.{text_of_perms}
use Rattle.pmp_text.proofs.lines.runs.add_all.Goals as goal

abbrev none : Run
none = record { first = 0; last = 0; owner = None }

pub returns-in_err-add-clause-err : goal.returns-in_err-add-clause-err
returns-in_err-add-clause-err g c =
    left_some g.R.RowSink.Adds g.met.R.RowSink.both c.from_residual.result _ _ _ _ c.loop-run.invariant
    c.in_err-add.ensures.err

pub loop-run-preserved : goal.loop-run-preserved
loop-run-preserved g c =
    one_more g.R.RowSink.Adds g.met.R.RowSink.both (run_row c.args.registers.now) c.args.runs.now c.loop-run.run-index
    none _ _ _ c.loop-run-test.true c.loop-run.invariant
    (rw (c.owner_cell.ensures, c.of_owner-rights.ensures, text_of_perms, text_of_perms) at c.in_ok-add.ensures.ok)
