-- What is told of a whole policy.
use Rattle.std.specs.Prelude.{◌≡◌, ℕ, ◌+◌, List, length, map, count_by, Ok, Option, slice_get, zip}
use Rattle.std.specs.List.{AllZip, enumerate_from, flat_map, position_from}
use Rattle.pmp_text.specs.declared.lines.verdict.Verdict.{Verdict}
use Rattle.pmp_text.specs.declared.policy.PolicyRow.{PolicyRow}
use Rattle.pmp_text.specs.Cells.{RowValue}
use Rattle.pmp_text.specs.Contents.{ScriptContents}
use Rattle.pmp_text.specs.Labels.{LabelText, policy_labels}
use Rattle.pmp_text.specs.Moments.{KnownMoments}
use Rattle.pmp_text.specs.Policies.{policy_fields, policy_meaning}
use Rattle.pmp_text.specs.Scripts.{script_meaning}
use Rattle.pmp_text.specs.Verdicts.{is_breach, verdict_row}
use Rattle.pmp_audit.specs.declared.policy_check.Breaches.{Breaches}
use Rattle.pmp_audit.specs.declared.policy_check.PolicySummary.{PolicySummary}
use Rattle.pmp_audit.specs.declared.policy_check.steps.Pace.{Pace}
use Rattle.pmp_audit.specs.Moments.{AreMoments}
use Rattle.pmp_audit.specs.PolicyBreaches.{IsTold}
use Rattle.pmp_audit.specs.PolicyCheck.{IsVerdict}

-- the rows for what is told of a policy's row with this number, each with its label if it has one
abbrev pub told_rows : (number : ℕ) → Option LabelText → List Verdict → List RowValue
told_rows number label told = map (λ verdict. verdict_row number verdict label) told

-- those of all rows, which are numbered from 1
unfoldable pub all_told_rows : List LabelText → List (List Verdict) → List RowValue
all_told_rows labels told =
    flat_map (λ (index, rows). told_rows (index + 1) (slice_get labels index) rows) (enumerate_from 0 told)

-- the number of rows, of those broken or unmet, and the number of the first that has a bare address
abbrev pub policy_summary : List PolicyRow → List Verdict → PolicySummary
policy_summary rows verdicts = record {
  rows = length verdicts;
  broken = count_by is_breach verdicts;
  bare = position_from (λ row. row.is_bare) 1 rows;
}

-- script and policy mean this, each row has its verdict, and the rows are what is told of them all
pub record PolicySays (breaches : Breaches) (pace : Pace) (script policy : List ℕ) (summary : PolicySummary)
    (answer : List RowValue) : Type 0
  where
    pub contents : ScriptContents
    pub script_means : script_meaning script ≡ Ok contents
    pub moments : KnownMoments
    pub moments_are : AreMoments contents moments
    pub rows : List PolicyRow
    pub policy_means : policy_meaning moments policy ≡ Ok (map policy_fields rows)
    pub verdicts : List Verdict
    pub judged : AllZip (IsVerdict pace contents) rows verdicts
    pub told : List (List Verdict)
    pub told_are : AllZip (λ (row, verdict). IsTold breaches pace contents row verdict) (zip rows verdicts) told
    pub answer_is : answer ≡ all_told_rows (policy_labels policy) told
    pub counted : summary ≡ policy_summary rows verdicts
