-- The laws of reports and entry lists.
use Rattle.std.specs.Prelude.{◌≡◌, ℕ, ◌≤◌, false, List, take, Option, Some, None}
use Rattle.pmp_core.specs.declared.decision.Decision.{Decision}
use Rattle.pmp_core.specs.declared.event.Event.{Event}
use Rattle.pmp_core.specs.RegisterFile.{RegisterFile, IsLegal, is_frozen, is_held}
use Rattle.pmp_core.specs.LockLaw.{StaysFrozen}
use Rattle.pmp_core.specs.ProtectionLaw.{StaysProtected}
use Rattle.pmp_text.specs.declared.moments.When.{When}
use Rattle.pmp_text.specs.declared.lines.since.Since.{Since}
use Rattle.pmp_text.specs.declared.trace.TraceRow.{TraceRow}
use Rattle.pmp_text.specs.Cells.{RowValue}
use Rattle.pmp_text.specs.Contents.{ScriptContents}
use Rattle.pmp_text.specs.Reports.{AreDecided, file_behind}
use Rattle.pmp_audit.specs.declared.policy_check.Breaches.{Breaches}
use Rattle.pmp_audit.specs.declared.policy_check.PolicySummary.{PolicySummary}
use Rattle.pmp_audit.specs.declared.policy_check.steps.Pace.{Pace}
use Rattle.pmp_audit.specs.declared.script_diff.AskedChanges.{AskedChanges}
use Rattle.pmp_audit.specs.declared.trace_audit.AuditSummary.{AuditSummary}
use Rattle.pmp_audit.specs.AskedFile.{SaysOfScript}
use Rattle.pmp_audit.specs.ScriptDiff.{DiffSays}
use Rattle.pmp_audit.specs.EntryList.{IsEntryList}
use Rattle.pmp_audit.specs.PolicyTexts.{PolicySays}
use Rattle.pmp_audit.specs.PolicyDraft.{IsDraftOf}
use Rattle.pmp_audit.specs.Since.{IsSince}
use Rattle.pmp_audit.specs.TraceAudit.{AuditSays}

abbrev pub OneListOfDecisionsLaw : Type 0
OneListOfDecisionsLaw = (script : ScriptContents) (rows : List TraceRow) (one other : List Decision)
    → AreDecided script rows one → AreDecided script rows other → one ≡ other

-- a script and a trace have only one report and one summary
abbrev pub OneReportLaw : Type 0
OneReportLaw = (script trace : List ℕ) (one other : AuditSummary) (text another : List ℕ)
    → AuditSays script trace one text → AuditSays script trace other another → (one ≡ other) × (text ≡ another)

-- a script and a policy have only one answer and one summary, after publications and after events, with all breaches
-- or without
abbrev pub OnePolicyAnswerLaw : Type 0
OnePolicyAnswerLaw = (breaches : Breaches) (pace : Pace) (script policy : List ℕ) (one other : PolicySummary)
    (rows others : List RowValue) → PolicySays breaches pace script policy one rows
    → PolicySays breaches pace script policy other others → (one ≡ other) × (rows ≡ others)

-- a script has only one draft of a policy
abbrev pub OneDraftLaw : Type 0
OneDraftLaw = (script one other : List ℕ) → IsDraftOf script one → IsDraftOf script other → one ≡ other

-- of a script and its draft, `add_policy` says that no row is broken or unmet
abbrev pub DraftHoldsLaw : Type 0
DraftHoldsLaw = (breaches : Breaches) (pace : Pace) (script draft : List ℕ) (summary : PolicySummary)
    (rows : List RowValue) → IsDraftOf script draft → PolicySays breaches pace script draft summary rows
    → summary.broken ≡ 0

-- two scripts have only one list of differences, and one number of its rows
abbrev pub OneDifferenceLaw : Type 0
OneDifferenceLaw = (old : List ℕ) (old_after : Option When) (new : List ℕ) (new_after : Option When)
    (asked : AskedChanges) (one other : ℕ) (rows others : List RowValue)
    → DiffSays old old_after new new_after asked one rows → DiffSays old old_after new new_after asked other others
    → (one ≡ other) × (rows ≡ others)

abbrev pub OneEntryListLaw : Type 0
OneEntryListLaw = (script : List ℕ) (after : Option When) (rows others : List RowValue)
    → SaysOfScript IsEntryList script after rows → SaysOfScript IsEntryList script after others → rows ≡ others

-- without a number, the entry isn't frozen in the end; with k, it is frozen after the first k batches and after more,
-- with the same configuration and the same bytes
abbrev pub IsKept : (start : RegisterFile) → List (List Event) → (i : ℕ) → Option ℕ → Type 0
IsKept start batches i None = is_frozen (file_behind start batches) i ≡ false
IsKept start batches i (Some k) =
    (done : ℕ) → k ≤ done → StaysFrozen (file_behind start (take k batches)) (file_behind start (take done batches)) i

-- without a number, the entry isn't held in the end; with k, what it and the entries before it decide after the first k
-- batches is protected from there on
abbrev pub Protects : (start : RegisterFile) → List (List Event) → (i : ℕ) → Option ℕ → Type 0
Protects start batches i None = is_held (file_behind start batches) i ≡ false
Protects start batches i (Some k) =
    (done : ℕ) → k ≤ done → StaysProtected (file_behind start (take k batches)) (file_behind start (take done batches)) i

abbrev pub SinceLaw : Type 0
SinceLaw = (start : RegisterFile) (batches : List (List Event)) (i : ℕ) (since : Since)
    → IsLegal start → IsSince start batches i since → IsKept start batches i since.frozen × Protects start batches i since.held
