use Rattle.std.proofs.Common.{◌≡◌}
use Rattle.pmp_core.specs.Ranges.{decision_of}
use Rattle.pmp_core.specs.Decision.{IsDecision}
use Rattle.pmp_text.specs.Reports.{file_of_script}
use Rattle.pmp_lint.specs.Why.{IsSince}
use Rattle.pmp_lint.proofs.because.decided_at.Given as goal

-- after the publications so far
abbrev pub invariant-loop-index : goal.invariant-loop-index
invariant-loop-index l = record {
  file : l.file ≡ file_of_script l.script l.index;
  by_bytes : IsDecision l.file l.access l.decision;
  computed : l.decision ≡ decision_of l.file l.access;
  since : IsSince l.script l.index l.access l.since;
}
