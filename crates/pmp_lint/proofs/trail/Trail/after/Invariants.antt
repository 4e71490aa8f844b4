use Rattle.std.proofs.Common.{◌≡◌, drop, fold}
use Rattle.pmp_core.specs.RegisterWrite.{step}
use Rattle.pmp_lint.specs.Events.{changing_lines, happenings_from, last_or}
use Rattle.pmp_lint.proofs.trail.Trail.after.Given as goal

-- the events so far, and then the rest
abbrev pub invariant-loop-place : goal.invariant-loop-place
invariant-loop-place l = record {
  file : fold step l.trail.file (drop l.place l.events) ≡ fold step l.fn.self.file l.events;
  line : last_or l.trail.line
      (changing_lines l.subject (happenings_from l.place l.trail.file (drop l.place l.events) l.lines))
      ≡ last_or l.fn.self.line (changing_lines l.subject (happenings_from 0 l.fn.self.file l.events l.lines));
}
