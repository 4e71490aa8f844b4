use Rattle.std.proofs.Common.{Some, ◌∙◌, ◌∷◌, ◌++◌, ap, sym}
use Rattle.std.specs.Prelude.{codes}
use Rattle.std.proofs.lemmas.Bool.Decides.{Decides-eqb}
use Rattle.std.proofs.lemmas.Slice.Eq.{strip_prefix_is}
use Rattle.pmp_text.specs.Tables.{records_of}
use Rattle.pmp_text.proofs.PlainLines.{header_line}
use Rattle.pmp_text.proofs.trace.plain.behind_plain_header.Goals as goal

pub returns : goal.returns
returns c =
    let name = codes "after,mode,kind,start,length" in
    let tail = c.in_ok-end.field-0-1.now in
    let ends = c.in_ok-end.ensures.cases.0 ∙ ap (λ e. e ∷ tail) c.if-end-ne10.false in
    let begins = strip_prefix_is Decides-eqb c.args.text.now name (Some c.in_ok-rest.rest) c.in_ok-rest.ensures.cases in
    let (header, is, reads) = header_line tail in
    (header, is, ap records_of (begins ∙ ap (λ l. name ++ l) ends) ∙ reads ∙ ap (λ l. header ∷ records_of l) (sym ends))
