-- Why an access is decided as it is after publications of a script, and a script's findings.
use Rattle.std.specs.Prelude.{◌≡◌, ℕ, List, ◌∷◌, Option, Ok}
use Rattle.pmp_core.specs.declared.access.Access.{Access}
use Rattle.pmp_core.specs.declared.decision.Decision.{Decision}
use Rattle.pmp_text.specs.Cells.{RowValue}
use Rattle.pmp_text.specs.Contents.{ScriptContents}
use Rattle.pmp_text.specs.Scripts.{script_meaning}
use Rattle.pmp_text.specs.declared.moments.When.{When}
use Rattle.pmp_lint.specs.declared.answer_run.AnswerRun.{AnswerRun}
use Rattle.pmp_lint.specs.declared.because.Because.{Because}
use Rattle.pmp_lint.specs.declared.finding.Finding.{Finding}
use Rattle.pmp_lint.specs.Findings.{told_count, told_rows}
use Rattle.pmp_lint.specs.Report.{AreFindings}
use Rattle.pmp_lint.specs.Why.{AreAnswerRuns, IsWhy}
use Rattle.pmp_lint.specs.WhyRows.{history_rows, why_row}
use Rattle.pmp_audit.specs.AskedFile.{SaysOfScript}

-- the reason's row, then those of the decisions at all moments
abbrev pub reasons_rows : Access → Because → List AnswerRun → List RowValue
reasons_rows access reason runs = why_row access reason ∷ history_rows access runs

-- this is the decision on the access after `done` publications, and the rows say why
pub record AreReasonRows (access : Access) (decision : Decision) (script : ScriptContents) (done : ℕ)
    (rows : List RowValue) : Type 0 where
  pub reason : Because
  pub decides : reason.decision ≡ decision
  pub is_reason : IsWhy script done access reason
  pub runs : List AnswerRun
  pub are_runs : AreAnswerRuns script access runs
  pub rows_are : rows ≡ reasons_rows access reason runs

abbrev pub ReasonsSay : (script : List ℕ) → Access → (after : Option When) → Decision → (rows : List RowValue) → Type 0
ReasonsSay script access after decision rows = SaysOfScript (AreReasonRows access decision) script after rows

-- the script has these contents, the rows are those of its findings that aren't accepted, and `told` counts them
pub record FindingsSay (script accepted : List ℕ) (told : ℕ) (rows : List RowValue) : Type 0 where
  pub contents : ScriptContents
  pub script_means : script_meaning script ≡ Ok contents
  pub findings : List Finding
  pub findings_are : AreFindings contents findings
  pub rows_are : rows ≡ told_rows accepted findings
  pub counted : told ≡ told_count accepted findings
