use Rattle.std.proofs.Common.{◌≡◌}
use Rattle.pmp_text.specs.Reports.{file_of_script}
use Rattle.pmp_lint.specs.Events.{changed_at}
use Rattle.pmp_lint.proofs.trail.changed_at.Given as goal

-- after the publications so far
abbrev pub invariant-loop-index : goal.invariant-loop-index
invariant-loop-index l = record {
  file : l.trail.file ≡ file_of_script l.script l.index;
  line : l.trail.line ≡ changed_at l.script l.index l.subject;
}
