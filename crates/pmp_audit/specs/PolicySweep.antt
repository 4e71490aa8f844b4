-- How far a policy's rows are judged as the states pass by.
use Rattle.std.specs.Prelude.{◌≡◌, ℕ, ◌+◌, ◌<◌, ◌≤◌, List, length, map, Option, Some, None, true, false}
use Rattle.pmp_core.specs.Moved.{AreAlikeBeside}
use Rattle.pmp_core.specs.RegisterFile.{RegisterFile}
use Rattle.pmp_text.specs.declared.lines.verdict.Breach.{Breach}
use Rattle.pmp_text.specs.declared.lines.verdict.Verdict.{Verdict}
use Rattle.pmp_text.specs.declared.lines.verdict.Verdict.TheVariants.{Broken, Holds, Unmet}
use Rattle.pmp_text.specs.declared.moments.Coming.{Coming}
use Rattle.pmp_text.specs.declared.moments.Coming.TheVariants as coming
use Rattle.pmp_text.specs.declared.policy.PolicyRow.{PolicyRow}
use Rattle.pmp_text.specs.Contents.{ScriptContents}
use Rattle.pmp_audit.specs.declared.policy_check.steps.Pace.{Pace}
use Rattle.pmp_audit.specs.declared.policy_check.steps.State.{State}
use Rattle.pmp_audit.specs.declared.policy_check.sweep.Judged.{Judged}
use Rattle.pmp_audit.specs.PolicyCheck.{IsFirstBreach, IsFirstIn, IsVerdictBy, state_after, step_count}

-- it is one of these states, and accesses without a moved byte are decided as in the state before
pub record IsStateOf (states : ℕ → RegisterFile) (state : State) : Type 0 where
  pub file : state.file ≡ states state.done
  pub moved : (before : ℕ) → before + 1 ≡ state.done → AreAlikeBeside (states before) state.file state.moved

-- the first breach of all, or none in the states before the one after `done` steps
abbrev pub IsFirstSoFar : (states : ℕ → RegisterFile) → PolicyRow → (from to done : ℕ) → Option Breach → Type 0
IsFirstSoFar states row from to done None = (k : ℕ) → from ≤ k → k < done → IsFirstIn (states k) row None
IsFirstSoFar states row from to done (Some breach) = IsFirstBreach states row from to breach

-- the verdict from the states before the one after `done` steps
pub record IsVerdictBefore (states : ℕ → RegisterFile) (row : PolicyRow) (from to done : ℕ) (verdict : Option Breach)
    : Type 0 where
  pub asking : done ≤ to → IsFirstSoFar states row from to done verdict
  pub asked : to < done → IsVerdictBy row.demand states row from to verdict

-- the row is valid for this script, and judged by the states before the one after `done` steps
pub record IsJudged (pace : Pace) (script : ScriptContents) (done : ℕ) (judged : Judged) : Type 0 where
  pub within : judged.row.to ≤ length script.batches
  pub from : judged.from ≡ step_count pace script.batches judged.row.from
  pub to : judged.to ≡ step_count pace script.batches judged.row.to
  pub verdict : IsVerdictBefore (state_after pace script) judged.row judged.from judged.to done judged.verdict

abbrev pub rows_of : List Judged → List PolicyRow
rows_of all = map (λ judged. judged.row) all

-- a row's verdict from its breach, if any
abbrev pub verdict_on : Coming → Option Breach → Verdict
verdict_on coming.Met None = Holds
verdict_on coming.Met (Some breach) = Broken breach
verdict_on coming.Unmet breach = Unmet false
verdict_on coming.Waived breach = Unmet true

abbrev pub told_of : Judged → Verdict
told_of judged = verdict_on judged.row.coming judged.verdict

abbrev pub verdicts_of : List Judged → List Verdict
verdicts_of all = map told_of all
