-- The verdicts on a policy's rows, while they are told.
use Rattle.std.specs.Prelude.{◌≡◌, List}
use Rattle.std.specs.List.{AllZip}
use Rattle.pmp_text.specs.declared.lines.verdict.Verdict.{Verdict}
use Rattle.pmp_text.specs.Cells.{RowValue}
use Rattle.pmp_text.specs.Contents.{ScriptContents}
use Rattle.pmp_text.specs.Labels.{LabelText}
use Rattle.pmp_audit.specs.declared.policy_check.Breaches.{Breaches}
use Rattle.pmp_audit.specs.declared.policy_check.PolicySummary.{PolicySummary}
use Rattle.pmp_audit.specs.declared.policy_check.steps.Pace.{Pace}
use Rattle.pmp_audit.specs.declared.policy_check.sweep.Judged.{Judged}
use Rattle.pmp_audit.specs.PolicyBreaches.{IsTold}
use Rattle.pmp_audit.specs.PolicySweep.{rows_of, told_of, verdicts_of}
use Rattle.pmp_audit.specs.PolicyTexts.{all_told_rows, policy_summary}

-- this is told of a judged row
abbrev pub IsToldOf : Breaches → Pace → ScriptContents → Judged → List Verdict → Type 0
IsToldOf breaches pace script one told = IsTold breaches pace script one.row (told_of one) told

-- the verdicts on these rows were counted, and what is told of them added
pub record AreWritten {A : Type 0} (Adds : List RowValue → A → A → Type 0) (Is : Judged → List Verdict → Type 0)
    (judged : List Judged) (labels : List LabelText) (before after : A) (summary : PolicySummary) : Type 0
  where
    pub told : List (List Verdict)
    pub told_are : AllZip Is judged told
    pub added : Adds (all_told_rows labels told) before after
    pub counted : summary ≡ policy_summary (rows_of judged) (verdicts_of judged)
