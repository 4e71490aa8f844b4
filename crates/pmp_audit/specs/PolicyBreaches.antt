-- Each breach of a policy's row, in the state in which it begins.
use Rattle.std.specs.Prelude.{◌≡◌, ℕ, zero, suc, ◌+◌, ◌==◌, ◌&&◌, Bool, not, List, [], ◌∷◌, ◌++◌, map, filter, filter_map}
use Rattle.std.specs.Prelude.{Option, Some, None, if◌then◌else◌, max, min, nat_le}
use Rattle.std.specs.List.{list_any}
use Rattle.pmp_core.specs.RegisterFile.{RegisterFile}
use Rattle.pmp_map.specs.declared.run.Run.{Run}
use Rattle.pmp_map.specs.Runs.{AreRuns}
use Rattle.pmp_text.specs.declared.lines.verdict.Breach.{Breach}
use Rattle.pmp_text.specs.declared.lines.verdict.Verdict.{Verdict}
use Rattle.pmp_text.specs.declared.lines.verdict.Verdict.TheVariants.{Broken, Holds, Unmet}
use Rattle.pmp_text.specs.declared.policy.Demand.{Demand}
use Rattle.pmp_text.specs.declared.policy.Demand.TheVariants.{Never, Always, Held}
use Rattle.pmp_text.specs.declared.policy.PolicyRow.{PolicyRow}
use Rattle.pmp_text.specs.Contents.{ScriptContents}
use Rattle.pmp_audit.specs.declared.policy_check.Breaches.{Breaches}
use Rattle.pmp_audit.specs.declared.policy_check.Breaches.TheVariants as breaches
use Rattle.pmp_audit.specs.declared.policy_check.question.Question.{Question}
use Rattle.pmp_audit.specs.declared.policy_check.question.Question.TheVariants as question
use Rattle.pmp_audit.specs.declared.policy_check.steps.Pace.{Pace}
use Rattle.pmp_audit.specs.PolicyCheck.{state_after, step_count}
use Rattle.pmp_audit.specs.PolicyQuestions.{is_yes}

-- ---- one state

-- the part of a run that lies in the row's range, if the answer for its bytes is yes
abbrev pub hit_of : Question → RegisterFile → PolicyRow → Run → Option Run
hit_of question file row run =
    let first = max run.first row.first in
    let last = min run.last row.last in
    if nat_le first last && is_yes question file run.owner row
    then Some (record { first = first; last = last; owner = run.owner }) else None

-- these parts of all runs
abbrev pub AreHits : Question → RegisterFile → PolicyRow → List Run → Type 0
AreHits question file row hits =
    (runs : List Run) × AreRuns file runs × (hits ≡ filter_map (hit_of question file row) runs)

-- ---- from one state to the next

-- one of the runs has the same bytes
abbrev pub has_bytes : List Run → Run → Bool
has_bytes runs run = list_any (λ one. one.first == run.first && one.last == run.last) runs

-- a breach for each run whose bytes none of the state before has
abbrev pub begun : (done : ℕ) → (before now : List Run) → List Breach
begun done before now =
    map (λ run. record { done = done; run = run }) (filter (λ run. not (has_bytes before run)) now)

-- the breaches that begin in the state after `from` steps, or in one of the `more` states behind it
unfoldable pub AreBegun : (states : ℕ → RegisterFile) → PolicyRow → (from more : ℕ) → List Breach → Type 0
AreBegun states row from zero all =
    (hits : List Run) × AreHits question.IsBroken (states from) row hits × (all ≡ begun from [] hits)
AreBegun states row from (suc more) all =
    (front : List Breach) × (before now : List Run) × AreBegun states row from more front
    × AreHits question.IsBroken (states (from + more)) row before
    × AreHits question.IsBroken (states (from + suc more)) row now × (all ≡ front ++ begun (from + suc more) before now)

-- ---- all states

-- of `held`, if no byte is open in any state, the runs that aren't held in the last one; else no more
abbrev pub AreLoose : Demand → (found : List Breach) → (last : RegisterFile) → PolicyRow → (to : ℕ) → List Breach
    → Type 0
AreLoose Held [] last row to more =
    (loose : List Run) × AreHits question.IsNotHeld last row loose × (more ≡ begun to [] loose)
AreLoose Held (breach ∷ found) last row to more = more ≡ []
AreLoose Never found last row to more = more ≡ []
AreLoose Always found last row to more = more ≡ []

-- the breaches by bytes that are open, or closed, in time and then in address
pub record AreFound (pace : Pace) (script : ScriptContents) (row : PolicyRow) (all : List Breach) : Type 0 where
  pub more : ℕ
  pub until : step_count pace script.batches row.from + more ≡ step_count pace script.batches row.to
  pub begun : AreBegun (state_after pace script) row (step_count pace script.batches row.from) more all

-- the row's breaches
pub record AreBreachesOf (pace : Pace) (script : ScriptContents) (row : PolicyRow) (all : List Breach) : Type 0 where
  pub found : List Breach
  pub found_are : AreFound pace script row found
  pub loose : List Breach
  pub loose_are : AreLoose row.demand found (state_after pace script (step_count pace script.batches row.to)) row
      (step_count pace script.batches row.to) loose
  pub all_is : all ≡ found ++ loose

-- what is told of a row with this verdict: the verdict, or, if it is broken and all breaches are asked for, each
abbrev pub IsTold : Breaches → Pace → ScriptContents → PolicyRow → Verdict → (told : List Verdict) → Type 0
IsTold breaches.First pace script row verdict told = told ≡ verdict ∷ []
IsTold breaches.All pace script row Holds told = told ≡ Holds ∷ []
IsTold breaches.All pace script row (Unmet waived) told = told ≡ Unmet waived ∷ []
IsTold breaches.All pace script row (Broken first) told =
    (all : List Breach) × AreBreachesOf pace script row all × (told ≡ map Broken all)
