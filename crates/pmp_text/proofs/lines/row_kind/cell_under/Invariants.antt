use Rattle.std.proofs.Common.{◌≡◌, length, map}
use Rattle.pmp_text.specs.Cells.{cell_value}
use Rattle.pmp_text.specs.Columns.{cell_under, column_value}
use Rattle.pmp_text.proofs.lines.row_kind.cell_under.Given as goal

-- the cell is that of the rest
abbrev pub invariant-loop-column : goal.invariant-loop-column
invariant-loop-column l =
    cell_under l.name (map column_value l.heads) (map (cell_value (λ text. text.items)) l.rest)
    ≡ cell_under l.name (map column_value l.columns) (map (cell_value (λ text. text.items)) l.cells)

abbrev pub decreases-loop-column : goal.decreases-loop-column
decreases-loop-column l = length l.heads
