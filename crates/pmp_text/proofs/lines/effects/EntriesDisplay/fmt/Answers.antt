use Rattle.std.proofs.Common.{rules, sym, ◌∙◌}
use Rattle.std.specs.List.{range_with_len}
use Rattle.pmp_text.proofs.SpacedWords.{range_more, passed_more, not_passed}
use Rattle.pmp_text.proofs.lines.effects.EntriesDisplay.fmt.Goals as goal
use Rattle.pmp_text.proofs.lines.effects.EntriesDisplay.fmt.Goals.{
  then-has_reason+in_ok-write,
  else-has_reason,
}

pub loop-entry-preserved : goal.loop-entry-preserved
loop-entry-preserved g c =
    let entry = c.loop-entry.entry-counter in
    rw (range_more entry) (elim c.if-has_reason.branch [
      | then-has_reason+in_ok-write w ↦ rw (w.f-is, w.is_first-is) (passed_more _ _ _ _ _ _ (range_with_len 0 entry) entry
          c.loop-entry.invariant (sym c.has_reason.ensures ∙ w.if-has_reason.true) _ (search rules))
      | else-has_reason w ↦ rw (w.f-is, w.is_first-is) (not_passed _ _ _ _ _ _ (range_with_len 0 entry) entry
          c.loop-entry.invariant (sym c.has_reason.ensures ∙ w.if-has_reason.false))
    ])
