use Rattle.std.proofs.Common.{List, ap, false, sym, ◌∙◌}
use Rattle.pmp_text.specs.Cells.{RowValue}
use Rattle.pmp_tool.specs.RowFormats.{formed}
use Rattle.pmp_tool.proofs.Harting.{alone}
use Rattle.pmp_tool.proofs.texts.text_of_one.Goals as goal

pub returns-then-is_none-clause-ok : goal.returns-then-is_none-clause-ok
returns-then-is_none-clause-ok g c =
    let added = c.in_ok-outcome.ensures.ok in
    let rows = added.rows in
    let plain = alone c.args.asking.question c.args.asking.names rows c.if-is_none.ensures in (
      rows,
      added.says,
      rw c.new-text.ensures.items at added.added
          ∙ sym (c.is_csv.ensures c.if-is_csv.true false rows)
          ∙ ap (λ (rows : List RowValue). formed c.args.form false rows) (sym plain),
    )
