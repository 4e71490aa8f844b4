use Rattle.std.proofs.Common.{map, take}
use Rattle.pmp_text.specs.Labels.{label_text}
use Rattle.pmp_audit.specs.PolicyRows.{AreWritten, IsToldOf}
use Rattle.pmp_audit.proofs.policy_check.add_verdicts.Given as goal

-- what is told of the rows so far is written
abbrev pub invariant-loop-one : goal.invariant-loop-one
invariant-loop-one g l =
    AreWritten g.R.RowSink.Adds (IsToldOf l.telling.breaches l.telling.steps.pace l.telling.steps.script.now)
    (take l.one-index l.judged) (map label_text l.telling.labels.now) l.fn.out l.out l.summary
