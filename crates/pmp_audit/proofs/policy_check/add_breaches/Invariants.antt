use Rattle.std.proofs.Common.{map, option_copied, option_map, take}
use Rattle.pmp_text.specs.declared.lines.verdict.Verdict.TheVariants.{Broken}
use Rattle.pmp_text.specs.Labels.{label_text}
use Rattle.pmp_audit.specs.PolicyTexts.{told_rows}
use Rattle.pmp_audit.proofs.policy_check.add_breaches.Given as goal

-- the rows so far
abbrev pub invariant-loop-breach : goal.invariant-loop-breach
invariant-loop-breach g l =
    g.R.RowSink.Adds (told_rows l.number (option_map label_text (option_copied l.label))
    (map Broken (take l.breach-index l.all))) l.fn.out l.out
