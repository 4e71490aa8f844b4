use Rattle.std.proofs.Common.{◌≡◌, drop, fold}
use Rattle.pmp_core.specs.RegisterWrite.{step}
use Rattle.pmp_lint.specs.Events.{happenings_from}
use Rattle.pmp_lint.specs.Telling.{telling}
use Rattle.pmp_lint.proofs.OpenBetween.{AreToldSoFar}
use Rattle.pmp_lint.proofs.open_between.add_of_publication.Given as goal

-- the events so far, and then the rest
abbrev pub invariant-loop-place : goal.invariant-loop-place
invariant-loop-place g l = record {
  file : fold step l.file (drop l.place l.publication.events.now) ≡ fold step l.fn.file l.publication.events.now;
  told : AreToldSoFar g.R.RowSink.Adds g.met.R.RowSink.none g.met.R.RowSink.both l.before l.after (happenings_from 0 l.fn.file l.publication.events.now l.publication.lines.now)
      (telling l.fn.out l.fn.told) (happenings_from l.place l.file (drop l.place l.publication.events.now) l.publication.lines.now)
      (telling l.out l.told);
}
