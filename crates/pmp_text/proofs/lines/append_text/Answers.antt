use Rattle.std.proofs.Common.{ap, ◌++◌, ◌∙◌, List, ℕ}
use Rattle.std.proofs.lemmas.Result.{on_ok_weaker}
use Rattle.pmp_text.proofs.Appending.{line_appended}
use Rattle.pmp_text.proofs.lines.append_text.Goals as goal

pub returns-clause-ok : goal.returns-clause-ok
returns-clause-ok g c =
    on_ok_weaker c.append.result
    (λ grown. line_appended (g.L.Display.output c.args.text) c.in_ok-text.text.bytes
    (g.S.Sink.text c.args.out.now) (g.S.Sink.text c.append.new.self) c.in_ok-text.ensures
    (grown ∙ ap (λ (l : List ℕ). g.S.Sink.text c.args.out.now ++ l)
    (c.as_bytes.ensures.value ∙ c.as_str.ensures.value)))
    c.append.ensures.ok
