use Rattle.std.proofs.Common.{rules}
use Rattle.pmp_lint.proofs.Events.{file_more}
use Rattle.pmp_lint.proofs.OpenBetween.{one_publication_more}
use Rattle.pmp_lint.proofs.Telling.{err_some}
use Rattle.pmp_lint.proofs.open_between.add_open_between.Goals as goal

pub loop-index-preserved : goal.loop-index-preserved
loop-index-preserved g c =
    let script = c.args.script.now in
    let index = c.loop-index.index in
    let told = c.in_ok-add_of_publication.ensures in
    let more = file_more script index (search rules) in
    record {
      file = rw more (rw (c.batch.ensures.events, c.loop-index.invariant.file) at told.file);
      told = one_publication_more g.R.RowSink.Adds g.met.R.RowSink.none g.met.R.RowSink.both script index _ _ _ c.loop-index.invariant.told
          (rw more (rw (c.batch.ensures.events, c.lines.ensures, c.loop-index.invariant.file) at told.ok));
    }

pub returns-in_err-add_of_publication-clause-err : goal.returns-in_err-add_of_publication-clause-err
returns-in_err-add_of_publication-clause-err g c =
    err_some g.R.RowSink.Adds g.met.R.RowSink.none g.met.R.RowSink.both _ _ _ _ _
    c.loop-index.invariant.told.has_told c.in_err-add_of_publication.ensures.err
