use Rattle.std.proofs.Common.{◌∙◌, ◌+◌, ◌++◌, ◌∷◌, [], ap, sym, map}
use Rattle.std.specs.List.{range_with_len}
use Rattle.std.proofs.lemmas.List.{map-append}
use Rattle.pmp_text.proofs.SpacedWords.{range_more}
use Rattle.pmp_forms.specs.Sarif.{row_rule}
use Rattle.pmp_forms.specs.Texts.{text_items}
use Rattle.pmp_forms.proofs.sarif.row_rules.Goals as goal

pub loop-index-preserved : goal.loop-index-preserved
loop-index-preserved c =
    let i = c.loop-index.index in
    ap text_items c.in_ok-push.ensures.items
    ∙ map-append (λ text. text.items) c.loop-index.all.items (c.in_ok-rule.rule ∷ [])
    ∙ (λ j. c.loop-index.invariant j ++ c.in_ok-rule.ensures j ∷ [])
    ∙ sym (ap (map (λ index. row_rule (index + 1))) (range_more i)
    ∙ map-append (λ index. row_rule (index + 1)) (range_with_len 0 i) (i ∷ []))
