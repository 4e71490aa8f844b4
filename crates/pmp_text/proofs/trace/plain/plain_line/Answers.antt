use Rattle.std.proofs.Common.{◌∙◌, ◌∷◌, ap}
use Rattle.pmp_text.proofs.PlainLines.{plain_line_is}
use Rattle.pmp_text.proofs.trace.plain.plain_line.Goals as goal

pub returns : goal.returns
returns c = plain_line_is _ _ _ _ _ _ _ _ _ _ _ c.in_ok-end.field-0-1.now
    c.in_ok-after.ensures.0 c.in_ok-after.ensures.1 c.in_ok-mode.ensures.0 c.in_ok-mode.ensures.1
    c.in_ok-kind.ensures.0 c.in_ok-kind.ensures.1 c.in_ok-start.ensures.0 c.in_ok-start.ensures.1
    c.in_ok-length.ensures.0 c.in_ok-length.ensures.1
    (c.in_ok-end.ensures.cases.0 ∙ ap (λ e. e ∷ c.in_ok-end.field-0-1.now) c.if-end-ne10.false)
