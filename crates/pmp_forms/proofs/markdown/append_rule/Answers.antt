use Rattle.std.proofs.Common.{◌+◌, codes, drop, map}
use Rattle.std.specs.List.{flat_map}
use Rattle.pmp_text.specs.Columns.{column_value}
use Rattle.pmp_forms.specs.Markdown.{cell}
use Rattle.pmp_forms.proofs.ColumnLists.{same_here}
use Rattle.pmp_forms.proofs.Joining.{appended_to}
use Rattle.pmp_forms.proofs.markdown.append_rule.Goals as goal

pub loop-column-preserved : goal.loop-column-preserved
loop-column-preserved c =
    let here = same_here (codes "---") c.args.columns.now c.loop-column._column-index c.loop-column-test.true in
    let columns = map column_value (drop (c.loop-column._column-index + 1) c.args.columns.now) in
    appended_to c.loop-column.out.items _ (cell (codes "---")) (flat_map cell (map (λ column. codes "---") columns))
    (codes "\n") _ c.in_ok-append_cell.ensures (rw here at c.loop-column.invariant)
