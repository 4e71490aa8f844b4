use Rattle.std.proofs.Common.{rules}
use Rattle.pmp_text.proofs.Prefixes.{on_err}
use Rattle.pmp_lint.proofs.Events.{file_more}
use Rattle.pmp_lint.proofs.LateWrites.{late_writes_more}
use Rattle.pmp_lint.proofs.Telling.{told_some}
use Rattle.pmp_lint.proofs.late_writes.add_late_writes.Goals as goal

pub loop-index-preserved : goal.loop-index-preserved
loop-index-preserved g c =
    let script = c.args.script.now in
    let index = c.loop-index.index in
    let told = c.in_ok-add_of_publication.ensures in
    record {
      file = rw (file_more script index (search rules)) (rw (c.batch.ensures.events, c.loop-index.invariant.file) at told.file);
      told = late_writes_more g.R.RowSink.Adds g.met.R.RowSink.none g.met.R.RowSink.both script index _ _ _ c.loop-index.invariant.told
          (rw (c.batch.ensures.events, c.lines.ensures, c.loop-index.invariant.file) at told.ok);
    }

pub returns-in_err-add_of_publication-clause-err : goal.returns-in_err-add_of_publication-clause-err
returns-in_err-add_of_publication-clause-err g c =
    on_err _ (told_some g.R.RowSink.Adds g.met.R.RowSink.none g.met.R.RowSink.both _ _ _ _
    c.loop-index.invariant.told c.in_err-add_of_publication.ensures.err)
