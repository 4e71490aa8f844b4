-- The rows of a policy's answer.
use Rattle.std.specs.Prelude.{ℕ, List, [], ◌∷◌, ◌++◌, Bool, true, false, not, Option, Some, None}
use Rattle.pmp_text.specs.declared.lines.verdict.Verdict.{Verdict}
use Rattle.pmp_text.specs.declared.lines.verdict.Verdict.TheVariants.{Broken, Holds, Unmet}
use Rattle.pmp_text.specs.declared.lines.row_kind.RowKind.TheVariants as kind
use Rattle.pmp_text.specs.Cells.{CellValue, Number, Address, OfVerdict, Text, RowValue, nothing}
use Rattle.pmp_text.specs.Labels.{LabelText}
use Rattle.pmp_text.specs.RunRows.{owner_value}

-- a row that is broken, or whose moments don't come, unless it waives them
abbrev pub is_breach : Verdict → Bool
is_breach Holds = false
is_breach (Broken breach) = true
is_breach (Unmet waived) = not waived

-- after how much was done it is broken, for which bytes, and by which entry
abbrev pub breach_cells : Verdict → List CellValue
breach_cells (Broken breach) = Number breach.done ∷ Address breach.run.first ∷ Address breach.run.last
    ∷ owner_value breach.run.owner ∷ []
breach_cells _ = nothing ∷ nothing ∷ nothing ∷ nothing ∷ []

abbrev pub verdict_cells : Verdict → List CellValue
verdict_cells verdict = OfVerdict verdict ∷ breach_cells verdict

-- the row for a policy's row with this number, with its name and its comment if it has them
abbrev pub verdict_row : ℕ → Verdict → Option LabelText → RowValue
verdict_row number verdict None = record { kind = kind.Verdict; cells = Number number ∷ verdict_cells verdict }
verdict_row number verdict (Some label) = record {
  kind = kind.LabeledVerdict;
  cells = Number number ∷ verdict_cells verdict ++ (Text label.name ∷ Text label.comment ∷ []);
}
