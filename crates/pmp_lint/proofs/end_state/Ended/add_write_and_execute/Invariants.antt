use Rattle.std.proofs.Common.{drop}
use Rattle.pmp_text.specs.Cells.{AddsSome}
use Rattle.pmp_lint.specs.Telling.{HasTold, Telling, telling}
use Rattle.pmp_lint.specs.WriteAndExecute.{written_and_executed}
use Rattle.pmp_lint.proofs.end_state.Ended.add_write_and_execute.Given as goal

-- the runs so far: once what the rest has is told too, what all have is told
abbrev pub invariant-loop-run : goal.invariant-loop-run
invariant-loop-run g l = record {
  told : (later : Telling _)
      → HasTold g.R.RowSink.Adds (written_and_executed l.self.script.now (drop l.run-index l.runs))
      (telling l.out l.told) later
      → HasTold g.R.RowSink.Adds (written_and_executed l.self.script.now l.runs) (telling l.fn.out l.fn.told) later;
  some : AddsSome g.R.RowSink.Adds l.fn.out l.out;
}
