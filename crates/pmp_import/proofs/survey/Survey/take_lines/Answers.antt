use Rattle.std.proofs.Common.{◌++◌, ◌∷◌, [], List, ℕ, sym, ap, ◌∙◌, append_assoc}
use Rattle.pmp_text.specs.Lines.{lines}
use Rattle.pmp_import.proofs.Readings.{finds_further}
use Rattle.pmp_import.proofs.survey.Survey.take_lines.Goals as goal

pub loop-line-preserved : goal.loop-line-preserved
loop-line-preserved c =
    let (taken, split, finds) = c.loop-line.invariant in
    let line = c.in-Some.line.now in
    let later = lines c.in-Some.behind.now in (
      taken ++ line ∷ [],
      split ∙ ap (λ (l : List (List ℕ)). taken ++ l) c.in-Some.ensures.lines
          ∙ sym (append_assoc taken (line ∷ []) later),
      finds_further _ finds c.in_ok-take_line.ensures.ok,
    )
