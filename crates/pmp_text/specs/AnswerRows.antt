-- The rows of decisions.
use Rattle.std.specs.Prelude.{ℕ, List, [], ◌∷◌}
use Rattle.pmp_core.specs.declared.access.Access.{Access}
use Rattle.pmp_core.specs.declared.decision.Decision.{Decision}
use Rattle.pmp_core.specs.FaultCode.{fault_of}
use Rattle.pmp_text.specs.declared.lines.row_kind.RowKind.TheVariants as kind
use Rattle.pmp_text.specs.Cells.{CellValue, Number, Word, RowValue, number_value}
use Rattle.pmp_text.specs.Reports.{answer_text, cause_text, entry_of}

-- whether it is allowed, the exception code if not, the cause, and the deciding entry, if any
abbrev pub answer_cells : Access → Decision → List CellValue
answer_cells access decision =
    Word (answer_text decision.allowed) ∷ number_value (fault_of access decision)
    ∷ Word (cause_text decision.cause) ∷ number_value (entry_of decision.cause) ∷ []

abbrev pub answer_row : ℕ → Access → Decision → RowValue
answer_row number access decision =
    record { kind = kind.Answer; cells = Number number ∷ answer_cells access decision }
