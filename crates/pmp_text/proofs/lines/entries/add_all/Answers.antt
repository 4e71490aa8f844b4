use Rattle.std.proofs.Common.{◌≡◌, length, refl, map, below_more, arith}
use Rattle.std.specs.List.{range_with_len, slice_index_or}
use Rattle.pmp_core.specs.Span.{IsSpan, span_of}
use Rattle.pmp_text.specs.EntryRows.{entry_row, no_since}
use Rattle.pmp_text.proofs.AddedRows.{left_some, one_more_place}
use Rattle.pmp_text.proofs.lines.entries.add_all.Goals as goal

pub returns-in_err-add_entry-clause-err : goal.returns-in_err-add_entry-clause-err
returns-in_err-add_entry-clause-err g c =
    left_some g.R.RowSink.Adds g.met.R.RowSink.both c.from_residual.result _ _ _ _ c.loop-entry.invariant.rows
    c.in_err-add_entry.ensures.err

pub loop-entry-preserved : goal.loop-entry-preserved
loop-entry-preserved g c =
    let file = c.args.file.now in
    let since = c.args.since.now in
    let is = c.registers-registers.ensures.same in
    record {
      spans = below_more (λ i. IsSpan file i (span_of file i)) c.loop-entry.entry
          c.loop-entry.invariant.spans (rw is at c.add_entry.ensures.span);
      rows = one_more_place g.R.RowSink.Adds g.met.R.RowSink.both
          (λ i. entry_row file i (span_of file i) (slice_index_or since i no_since)) c.loop-entry.entry _ _ _
          c.loop-entry.invariant.rows (rw (c.from.ensures, is) at c.in_ok-add_entry.ensures.ok);
    }

pub returns-clause-ok : goal.returns-clause-ok
returns-clause-ok g c =
    let file = c.args.file.now in
    let since = c.args.since.now in
    let all : c.loop-entry.entry ≡ length file.entries = omega arith in (
      map (λ i. entry_row file i (span_of file i) (slice_index_or since i no_since))
          (range_with_len 0 (length file.entries)),
      record {
        span = span_of file;
        spans = rw all at c.loop-entry.invariant.spans;
        rows_are = refl;
      },
      rw all at c.loop-entry.invariant.rows,
    )
