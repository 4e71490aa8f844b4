use Rattle.std.proofs.Common.{◌≡◌, map, take, ℕ}
use Rattle.pmp_text.specs.Cells.{cell_value}
use Rattle.pmp_text.proofs.lines.row_sink.AnswerRow.of.Given as goal

-- the cells so far, with texts of their own
abbrev pub invariant-loop-cell : goal.invariant-loop-cell
invariant-loop-cell l = map (cell_value (λ text. text.items)) l.own.items
    ≡ map (cell_value (λ text. text.now)) (take l.cell-index l.cells)
