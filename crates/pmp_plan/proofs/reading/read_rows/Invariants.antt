use Rattle.std.proofs.Common.{◌≡◌, length, map}
use Rattle.pmp_text.specs.Lines.{lines}
use Rattle.pmp_plan.specs.PlanTexts.{rows_from}
use Rattle.pmp_plan.specs.KeptRows.{joined, said}
use Rattle.pmp_plan.proofs.reading.read_rows.Given as goal

-- the rows so far, and those of the rest, are all
abbrev pub invariant-loop-line : goal.invariant-loop-line
invariant-loop-line g l =
    rows_from 1 (lines l.text) ≡ joined (map said (g.L.RowList.kept l.rows)) (rows_from l.number (lines l.rest))

abbrev pub decreases-loop-line : goal.decreases-loop-line
decreases-loop-line g l = length l.rest
