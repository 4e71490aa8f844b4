use Rattle.std.proofs.Common.{◌≡◌, ℕ, ◌<◌, ◌≤◌}
use Rattle.std.specs.List.{slice_index_or}
use Rattle.pmp_core.specs.RegisterFile.{is_frozen, is_held}
use Rattle.pmp_text.specs.EntryRows.{no_since}
use Rattle.pmp_audit.specs.SinceStep.{since_after}
use Rattle.pmp_audit.proofs.since.count_in.Given as goal

-- the entries below this one are counted in, and the others stand as they were
abbrev pub invariant-loop-entry : goal.invariant-loop-entry
invariant-loop-entry l = record {
  frozen : (i : ℕ) → i < l.entry → (slice_index_or l.since i no_since).frozen
      ≡ since_after (slice_index_or l.fn.since i no_since).frozen (is_frozen l.file i) l.are_writes l.done;
  held : (i : ℕ) → i < l.entry → (slice_index_or l.since i no_since).held
      ≡ since_after (slice_index_or l.fn.since i no_since).held (is_held l.file i) l.are_writes l.done;
  rest : (i : ℕ) → l.entry ≤ i → slice_index_or l.since i no_since ≡ slice_index_or l.fn.since i no_since;
}
