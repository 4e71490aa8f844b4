use Rattle.std.proofs.Common.{◌≡◌, ◌+◌, length, arith}
use Rattle.pmp_audit.specs.WriteList.{placed_events}
use Rattle.pmp_text.proofs.AddedRows.{some_and_some}
use Rattle.pmp_audit.proofs.WrittenEvents.{length-placed, events_more, written_then, rows_all, summary_all}
use Rattle.pmp_audit.proofs.write_list.add_events.Goals as goal

pub loop-index-preserved : goal.loop-index-preserved
loop-index-preserved g c =
    let index = c.loop-index.index in
    let written = c.in_ok-summary.ensures.written in
    let counted = written.counted in
    let count = length-placed (index + 1) c.lines.result.now c.batch.result.now in
    let limit = c.batch.ensures.limit in
    record {
      written = rw (events_more c.args.script.now index) (written_then g.R.RowSink.Adds g.met.R.RowSink.both _ _ _ _ _ _ c.loop-index.invariant.written
          (rw (c.lines.ensures, c.batch.ensures.events) at written));
      few = omega arith;
      within = c.in_ok-summary.ensures.within;
    }

pub returns-clause-rows : goal.returns-clause-rows
returns-clause-rows g c =
    let all : c.loop-index.index ≡ length c.args.script.now.batches =
    omega (arith, c.batches-index-end.ensures) in
    rw (rows_all c.args.script.now.start (placed_events c.args.script.now)) at
    (rw all at c.loop-index.invariant.written.added)

pub returns-clause-counted : goal.returns-clause-counted
returns-clause-counted g c =
    let all : c.loop-index.index ≡ length c.args.script.now.batches =
    omega (arith, c.batches-index-end.ensures) in
    let written = rw all at c.loop-index.invariant.written in
    summary_all c.args.script.now.start c.args.accepted.now (placed_events c.args.script.now) c.loop-index.summary
    written.counted written.turned

pub returns-in_err-summary-clause-err : goal.returns-in_err-summary-clause-err
returns-in_err-summary-clause-err g c =
    some_and_some g.R.RowSink.Adds g.met.R.RowSink.both _ _ _ _ (_, c.loop-index.invariant.written.added)
    c.in_err-summary.ensures.err
