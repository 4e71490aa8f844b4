use Rattle.std.proofs.Common.{◌≡◌, ◌++◌, map, take, ℕ}
use Rattle.pmp_text.specs.Cells.{cell_text, cell_value}
use Rattle.pmp_text.specs.Reports.{fields_before}
use Rattle.pmp_text.proofs.lines.csv_rows.append_after.Given as goal

-- the cells so far, each after a comma
abbrev pub invariant-loop-cell : goal.invariant-loop-cell
invariant-loop-cell g l = (g.S.Sink.text l.out) ≡ (g.S.Sink.text l.initial.out)
    ++ fields_before (map cell_text (map (cell_value (λ text. text.now)) (take l.cell-index l.cells)))
