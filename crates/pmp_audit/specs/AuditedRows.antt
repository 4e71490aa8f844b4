-- The rows of an audit.
use Rattle.std.specs.Prelude.{◌≡◌, ℕ, ◌+◌, List, [], ◌∷◌, map, Ok}
use Rattle.pmp_core.specs.declared.decision.Decision.{Decision}
use Rattle.pmp_text.specs.AnswerRows.{answer_row}
use Rattle.pmp_text.specs.Cells.{RowValue}
use Rattle.pmp_text.specs.Contents.{ScriptContents}
use Rattle.pmp_text.specs.Moments.{moments_in}
use Rattle.pmp_text.specs.Reports.{AreDecided}
use Rattle.pmp_text.specs.Scripts.{script_meaning}
use Rattle.pmp_text.specs.Traces.{row_fields, trace_meaning}
use Rattle.pmp_text.specs.declared.trace.TraceRow.{TraceRow}
use Rattle.pmp_audit.specs.Report.{refused_count}
use Rattle.pmp_audit.specs.TraceAudit.{summary_of}
use Rattle.pmp_audit.specs.declared.trace_audit.AuditSummary.{AuditSummary}

-- a row for each decision, numbered from `first`
abbrev pub decision_rows : (first : ℕ) → List TraceRow → List Decision → List RowValue
decision_rows first (row ∷ rows) (decision ∷ decisions) =
    answer_row first row.access decision ∷ decision_rows (first + 1) rows decisions
decision_rows first _ _ = []

-- the rows of these accesses, numbered from 1, and how many are refused
pub record DecisionsSay (script : ScriptContents) (rows : List TraceRow) (faults : ℕ) (answer : List RowValue)
    : Type 0 where
  pub decisions : List Decision
  pub decided : AreDecided script rows decisions
  pub rows_are : answer ≡ decision_rows 1 rows decisions
  pub counted : faults ≡ refused_count decisions

-- the script has these contents, and there is a row for each decision on the trace, and they are counted
pub record AuditRowsSay (script trace : List ℕ) (summary : AuditSummary) (answer : List RowValue) : Type 0 where
  pub contents : ScriptContents
  pub script_means : script_meaning script ≡ Ok contents
  pub rows : List TraceRow
  pub trace_means : trace_meaning (moments_in contents) trace ≡ Ok (map row_fields rows)
  pub decisions : List Decision
  pub decided : AreDecided contents rows decisions
  pub rows_are : answer ≡ decision_rows 1 rows decisions
  pub counted : summary ≡ summary_of 1 rows decisions
