use Rattle.std.proofs.Common.{◌≡◌, ◌++◌, List}
use Rattle.pmp_text.specs.Reports.{file_of_script}
use Rattle.pmp_lint.specs.declared.answer_run.AnswerRun.{AnswerRun}
use Rattle.pmp_lint.specs.WhyRows.{history_rows}
use Rattle.pmp_lint.proofs.AnswerRuns.{AreAnsweredTo}
use Rattle.pmp_lint.proofs.answer_run.add_runs.Given as goal

-- the runs of the moments so far have rows, but for the last one, which may go on
abbrev pub invariant-loop-index : goal.invariant-loop-index
invariant-loop-index g l = record {
  file : l.file ≡ file_of_script l.script l.index;
  rows : (runs : List AnswerRun) × AreAnsweredTo l.script l.access l.index runs l.run
      × g.R.RowSink.Adds (history_rows l.access runs) l.fn.out l.out;
}
