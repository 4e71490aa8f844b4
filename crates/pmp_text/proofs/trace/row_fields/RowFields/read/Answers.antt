use Rattle.std.proofs.Common.{◌≡◌, refl, Some, sym, ◌∙◌, rules}
use Rattle.csv.specs.Records.{fields_of}
use Rattle.pmp_text.specs.Steps.Views.{seen_five}
use Rattle.pmp_text.specs.Traces.{five_fields}
use Rattle.pmp_text.proofs.BrokenRows.{are_five}
use Rattle.pmp_text.proofs.trace.row_fields.RowFields.read.Goals as goal

pub returns-then-have_line_end : goal.returns-then-have_line_end
returns-then-have_line_end c =
    let five = seen_five c.in_ok-words.words in
    let is : five_fields (fields_of c.args.fields.now) ≡ Some five = search rules in
    let ends = sym c.have_line_end.ensures ∙ c.if-have_line_end.true in
    rw (are_five _ five is, ends, c.whole-then-have_line_end.ensures) refl

pub returns : goal.returns
returns c =
    let five = seen_five c.in_ok-words.words in
    let is : five_fields (fields_of c.args.fields.now) ≡ Some five = search rules in
    rw (is, are_five _ five is, sym c.have_line_end.ensures ∙ c.if-have_line_end.false) c.of_words.ensures
