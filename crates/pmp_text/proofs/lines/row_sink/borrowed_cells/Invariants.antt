use Rattle.std.proofs.Common.{◌≡◌, map, take}
use Rattle.pmp_text.specs.Cells.{cell_value}
use Rattle.pmp_text.proofs.lines.row_sink.borrowed_cells.Given as goal

-- the cells so far
abbrev pub invariant-loop-cell : goal.invariant-loop-cell
invariant-loop-cell l = map (cell_value (λ text. text.now)) l.all.items
    ≡ map (cell_value (λ text. text.items)) (take l.cell-index l.cells)
