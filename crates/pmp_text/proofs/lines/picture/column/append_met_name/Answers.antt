use Rattle.std.proofs.Common.{List, ap, append_assoc, ◌++◌, ◌∙◌, ℕ}
use Rattle.pmp_text.specs.MetNames.{named}
use Rattle.pmp_text.specs.Picture.{band_name, beginning}
use Rattle.pmp_text.proofs.lines.picture.column.append_met_name.Goals as goal

pub returns-clause-ok : goal.returns-clause-ok
returns-clause-ok g c =
    let old = g.S.Sink.text c.args.out.now in
    let name = band_name (named c.args.name.now) c.args.run.now.first c.args.run.now.last in
    rw (← c.if-not-meets.ensures) (c.in_ok-append_name.ensures.ok
    ∙ ap (λ (l : List ℕ). l ++ name) (c.in_ok-append.ensures.ok ∙ ap (λ (l : List ℕ). old ++ l) c.beginning.ensures)
    ∙ append_assoc old (beginning c.args.is_first) name)
