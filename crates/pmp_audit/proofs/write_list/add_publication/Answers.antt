use Rattle.std.proofs.Common.{length, refl, rules}
use Rattle.std.proofs.lemmas.List.{length_push}
use Rattle.std.proofs.lemmas.Slice.Zip.{zip_turn, zip_end}
use Rattle.pmp_text.proofs.AddedRows.{left_some}
use Rattle.pmp_audit.proofs.WrittenEvents.{placed_more, all_placed, one_written, written_then}
use Rattle.pmp_audit.proofs.write_list.add_publication.Goals as goal

pub loop-line-preserved : goal.loop-line-preserved
loop-line-preserved g c =
    let done = c.loop-line.yielded in
    let turn = zip_turn c.args.publication.lines.now c.args.publication.events.now done c.into_iter-line-iterator.result
    c.loop-line.line-iterator c.next.new.self c.next.result
    (rw (c.into_iter-line-iterator.ensures.into_iter_gives, c.zip-line-items.ensures.first) c.iter.ensures.rest)
    (rw c.into_iter-line-iterator.ensures.into_iter_gives c.zip-line-items.ensures.second.0)
    c.loop-line.yielded_by (c.in-Some.line, c.in-Some.event) c.in-Some.is c.next.ensures.steps in
    let more = placed_more c.args.publication.number c.args.publication.lines.now c.args.publication.events.now (length done) c.in-Some.line.now
    c.in-Some.event.now turn.0 turn.1 turn.2 turn.3 in
    record {
      written = rw (length_push, more) (written_then g.R.RowSink.Adds g.met.R.RowSink.both _ _ _ _ _ _
          c.loop-line.invariant.written (one_written g.R.RowSink.Adds _ _ _ _ c.in_ok-after.ensures.ok c.in_ok-after.ensures.next refl
          (let fault = c.has_fault-is_fault.ensures c.in_ok-after.ensures.next in search rules)));
      within = search rules;
    }

pub returns-clause-written : goal.returns-clause-written
returns-clause-written g c =
    let end = zip_end c.args.publication.lines.now c.args.publication.events.now c.loop-line.yielded c.into_iter-line-iterator.result
    c.loop-line.line-iterator c.next.new.self c.next.result
    (rw (c.into_iter-line-iterator.ensures.into_iter_gives, c.zip-line-items.ensures.first) c.iter.ensures.rest)
    (rw c.into_iter-line-iterator.ensures.into_iter_gives c.zip-line-items.ensures.second.0)
    c.loop-line.yielded_by c.in-None.is c.next.ensures.steps in
    rw (all_placed c.args.publication.number c.args.publication.lines.now c.args.publication.events.now (length c.loop-line.yielded) end) at
    c.loop-line.invariant.written

pub returns-in_err-after-clause-err : goal.returns-in_err-after-clause-err
returns-in_err-after-clause-err g c =
    left_some g.R.RowSink.Adds g.met.R.RowSink.both _ _ _ _ _ c.loop-line.invariant.written.added
    c.in_err-after.ensures.err
