use Rattle.std.proofs.Common.{ℕ, ◌<◌, map}
use Rattle.std.specs.List.{range_with_len, slice_index_or}
use Rattle.pmp_core.specs.Span.{IsSpan, span_of}
use Rattle.pmp_text.specs.EntryRows.{entry_row, no_since}
use Rattle.pmp_text.proofs.lines.entries.add_all.Given as goal

-- the rows so far, with the entries' spans
abbrev pub invariant-loop-entry : goal.invariant-loop-entry
invariant-loop-entry g l = record {
  spans : (i : ℕ) → i < l.entry → IsSpan l.file i (span_of l.file i);
  rows : g.R.RowSink.Adds (map (λ i. entry_row l.file i (span_of l.file i) (slice_index_or l.since i no_since))
      (range_with_len 0 l.entry)) l.initial.out l.out;
}
