use Rattle.std.proofs.Common.{◌≡◌, drop, fold}
use Rattle.std.specs.List.{flat_map}
use Rattle.pmp_core.specs.RegisterWrite.{step}
use Rattle.pmp_text.specs.Cells.{AddsSome}
use Rattle.pmp_lint.specs.Events.{happenings_from}
use Rattle.pmp_lint.specs.LateWrites.{late_writes_of}
use Rattle.pmp_lint.specs.Telling.{HasTold, Telling, telling}
use Rattle.pmp_lint.proofs.late_writes.add_of_publication.Given as goal

-- the events so far: once what the rest has is told too, what all have is told
abbrev pub invariant-loop-place : goal.invariant-loop-place
invariant-loop-place g l = record {
  file : fold step l.file (drop l.place l.publication.events.now) ≡ fold step l.fn.file l.publication.events.now;
  told : (later : Telling _)
      → HasTold g.R.RowSink.Adds (flat_map late_writes_of (happenings_from l.place l.file (drop l.place l.publication.events.now) l.publication.lines.now))
      (telling l.out l.told) later
      → HasTold g.R.RowSink.Adds (flat_map late_writes_of (happenings_from 0 l.fn.file l.publication.events.now l.publication.lines.now))
      (telling l.fn.out l.fn.told) later;
  some : AddsSome g.R.RowSink.Adds l.fn.out l.out;
}
