use Rattle.std.proofs.Common.{rules, sym, take, ◌∙◌}
use Rattle.std.proofs.lemmas.List.{take_more}
use Rattle.pmp_core.specs.declared.write_reasons.WriteReason.TheVariants.{Absent}
use Rattle.pmp_core.specs.WriteReasons.{all_reasons}
use Rattle.pmp_text.proofs.SpacedWords.{passed_more, not_passed}
use Rattle.pmp_text.proofs.lines.effects.ReasonsDisplay.fmt.Goals as goal
use Rattle.pmp_text.proofs.lines.effects.ReasonsDisplay.fmt.Goals.{
  then-is_reason+in_ok-write,
  else-is_reason,
}

pub loop-reason-preserved : goal.loop-reason-preserved
loop-reason-preserved g c =
    let done = take c.loop-reason.reason-index all_reasons in
    rw (take_more all_reasons c.loop-reason.reason-index Absent c.loop-reason-test.true) (elim c.if-is_reason.branch [
      | then-is_reason+in_ok-write w ↦ rw (w.f-is, w.is_first-is) (passed_more _ _ _ _ _ _ done _
          c.loop-reason.invariant (sym c.is_reason.ensures ∙ w.if-is_reason.true) _ (search rules))
      | else-is_reason w ↦ rw (w.f-is, w.is_first-is) (not_passed _ _ _ _ _ _ done _
          c.loop-reason.invariant (sym c.is_reason.ensures ∙ w.if-is_reason.false))
    ])
