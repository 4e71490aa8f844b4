use Rattle.std.proofs.Common.{◌∙◌, ap, sym}
use Rattle.pmp_text.specs.RowsLeft.{RowsLeft}
use Rattle.pmp_text.specs.Steps.Views.{five_words, seen_five}
use Rattle.pmp_text.specs.Traces.{row_in}
use Rattle.pmp_text.proofs.PlainLines.{line_says}
use Rattle.pmp_text.proofs.trace.rows.RowReader.next_fields.Goals as goal

pub returns-in-Some-plain_line-clause-some : goal.returns-in-Some-plain_line-clause-some
returns-in-Some-plain_line-clause-some c =
    let words = seen_five c.in-Some-plain_line.words in
    let (reads, whole) = c.in-Some-plain_line.ensures in (
      five_words words,
      rw (← c.self.view_is, c.in-Some.is) reads,
      ap (λ (r : RowsLeft). row_in r.moments (five_words words)) (sym c.self.view_is)
          ∙ line_says _ words whole ∙ sym c.of_words.ensures,
    )
