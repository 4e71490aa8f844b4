-- What an audit reports on a trace, and when it refuses.
use Rattle.std.specs.Prelude.{◌≡◌, ◌⊎◌, ℕ, List, length, count_by, not, Ok, Err}
use Rattle.pmp_core.specs.declared.decision.Decision.{Decision}
use Rattle.pmp_text.specs.declared.trace.TraceRow.{TraceRow}
use Rattle.pmp_text.specs.declared.fault.Fault.{Fault}
use Rattle.pmp_text.specs.Contents.{ScriptContents}
use Rattle.pmp_text.specs.Moments.{moments_in}
use Rattle.pmp_text.specs.Reports.{IsReport, report_text}
use Rattle.pmp_text.specs.Scripts.{script_meaning}
use Rattle.pmp_text.specs.Traces.{first_bare, trace_meaning}
use Rattle.pmp_audit.specs.declared.trace_audit.AuditSummary.{AuditSummary}
use Rattle.pmp_audit.specs.AskedFile.{ScriptRefuses}

-- the number of rows decided, of those refused, and the number of the first whose start is bare; rows are numbered from
-- `first`
abbrev pub summary_of : (first : ℕ) → List TraceRow → List Decision → AuditSummary
summary_of first rows decisions = record {
  rows = length decisions;
  faults = count_by (λ decision. not decision.allowed) decisions;
  bare = first_bare first rows;
}

-- the text is the report of rows with these decisions, and the decisions are counted
pub record ReportSays (rows : List TraceRow) (decisions : List Decision) (summary : AuditSummary) (text : List ℕ) : Type 0 where
  pub report : text ≡ report_text rows decisions
  pub counted : summary ≡ summary_of 1 rows decisions

-- the script has these contents, the text is its report for the trace, and the report's decisions are counted
pub record AuditSays (script trace : List ℕ) (summary : AuditSummary) (text : List ℕ) : Type 0 where
  pub contents : ScriptContents
  pub script_means : script_meaning script ≡ Ok contents
  pub report : IsReport contents trace text
  pub counted : summary ≡ summary_of 1 report.rows report.decisions

-- the script has no fault, and the trace has this one
pub record IsFaultyTrace (script trace : List ℕ) (fault : Fault) : Type 0 where
  pub contents : ScriptContents
  pub script_means : script_meaning script ≡ Ok contents
  pub trace_means : trace_meaning (moments_in contents) trace ≡ Err fault

-- the script's own fault, or else the trace's
abbrev pub AuditRefuses : (script trace : List ℕ) → Fault → Type 0
AuditRefuses script trace fault = ScriptRefuses script fault ⊎ IsFaultyTrace script trace fault
