-- How the rows of a policy are judged, by bytes and by states of the register file (Volume II, 3.7.1.3).
use Rattle.std.specs.Prelude.{◌≡◌, ◌≢◌, ℕ, ◌+◌, ◌<◌, ◌≤◌, Bool, true, false, List, [], ◌∷◌, length, map, take}
use Rattle.std.specs.Prelude.{Option, Some, None, IsSome, Ok, Err, ◌⊎◌, option_map}
use Rattle.pmp_core.specs.declared.access.Kind.{Kind}
use Rattle.pmp_core.specs.declared.access.Mode.{Mode}
use Rattle.pmp_core.specs.declared.event.Event.{Event}
use Rattle.pmp_core.specs.Decision.{IsOwner}
use Rattle.pmp_core.specs.Histories.{joined}
use Rattle.pmp_core.specs.RegisterFile.{RegisterFile}
use Rattle.pmp_map.specs.declared.run.Run.{Run}
use Rattle.pmp_map.specs.OpenBytes.{IsAnswered, IsHeldByte}
use Rattle.pmp_map.specs.Runs.{IsInRun}
use Rattle.pmp_text.specs.declared.lines.verdict.Breach.{Breach}
use Rattle.pmp_text.specs.declared.lines.verdict.Verdict.{Verdict}
use Rattle.pmp_text.specs.declared.lines.verdict.Verdict.TheVariants.{Broken, Holds, Unmet}
use Rattle.pmp_text.specs.declared.moments.Coming.{Coming}
use Rattle.pmp_text.specs.declared.moments.Coming.TheVariants as coming
use Rattle.pmp_text.specs.Moments.{KnownMoments}
use Rattle.pmp_text.specs.declared.policy.Demand.{Demand}
use Rattle.pmp_text.specs.declared.policy.Demand.TheVariants.{Never, Always, Held}
use Rattle.pmp_text.specs.declared.policy.PolicyRow.{PolicyRow}
use Rattle.pmp_text.specs.declared.fault.Fault.{Fault}
use Rattle.pmp_text.specs.Cells.{RowValue}
use Rattle.pmp_text.specs.Contents.{ScriptContents}
use Rattle.pmp_text.specs.declared.policy.row_fields.PolicyFields.{PolicyFields}
use Rattle.pmp_text.specs.Policies.{has_kind, has_mode, policy_fields, policy_meaning, proper_fields_fault}
use Rattle.pmp_text.specs.Reports.{file_behind}
use Rattle.pmp_text.specs.Scripts.{script_meaning}
use Rattle.pmp_text.specs.Flaws.{at_row}
use Rattle.pmp_text.specs.Verdicts.{verdict_row}
use Rattle.pmp_audit.specs.declared.policy_check.steps.Pace.{Pace}
use Rattle.pmp_audit.specs.declared.policy_check.steps.Pace.TheVariants.{Publications, Events}
use Rattle.pmp_audit.specs.Moments.{AreMoments}
use Rattle.pmp_audit.specs.AskedFile.{ScriptRefuses}
use Rattle.pmp_text.specs.declared.fault.Source.TheVariants as source

-- ---- the states asked about

-- a script's publications as steps: each whole, or each event by itself
abbrev pub steps_of : Pace → List (List Event) → List (List Event)
steps_of Publications batches = batches
steps_of Events batches = map (λ event. event ∷ []) (joined batches)

-- how many steps the first publications take
abbrev pub step_count : Pace → List (List Event) → (publications : ℕ) → ℕ
step_count Publications batches publications = publications
step_count Events batches publications = length (joined (take publications batches))

-- the register file after `done` steps
abbrev pub state_after : Pace → ScriptContents → (done : ℕ) → RegisterFile
state_after pace script done = file_behind script.start (take done (steps_of pace script.batches))

-- ---- one state

-- the byte is open, or closed, to one of the row's modes and kinds
abbrev pub IsFound : (allowed : Bool) → RegisterFile → PolicyRow → (byte : ℕ) → Type 0
IsFound allowed file row byte =
    (mode : Mode) × (kind : Kind) × (has_mode row.modes mode ≡ true) × (has_kind row.kinds kind ≡ true)
    × IsAnswered file allowed mode kind byte

-- what breaks a demand: an open byte, or for `always` a closed one
abbrev pub is_broken_by : Demand → Bool
is_broken_by Never = true
is_broken_by Always = false
is_broken_by Held = true

-- the byte breaks the row's demand
abbrev pub IsBroken : RegisterFile → PolicyRow → (byte : ℕ) → Type 0
IsBroken file row = IsFound (is_broken_by row.demand) file row

-- the byte isn't held
abbrev pub IsNotHeld : RegisterFile → PolicyRow → (byte : ℕ) → Type 0
IsNotHeld file row byte = ¬ (IsHeldByte file byte)

-- the run begins at the first such byte of the row's range, and goes on in the range as far as its owner does
pub record IsFirstRun (file : RegisterFile) (IsSo : ℕ → Type 0) (row : PolicyRow) (run : Run) : Type 0 where
  pub proper : run.first ≤ run.last
  pub from : row.first ≤ run.first
  pub to : run.last ≤ row.last
  pub all : (byte : ℕ) → IsInRun run byte → IsSo byte
  pub first : (byte : ℕ) → row.first ≤ byte → byte < run.first → ¬ (IsSo byte)
  pub owned : (byte : ℕ) → IsInRun run byte → IsOwner file byte run.owner
  pub apart : run.last < row.last → (other : Option ℕ) → IsOwner file (run.last + 1) other → run.owner ≢ other

-- that run, or none if the range has no such byte
abbrev pub IsFirstOf : RegisterFile → (ℕ → Type 0) → PolicyRow → Option Run → Type 0
IsFirstOf file IsSo row None = (byte : ℕ) → row.first ≤ byte → byte ≤ row.last → ¬ (IsSo byte)
IsFirstOf file IsSo row (Some run) = IsFirstRun file IsSo row run

-- ---- all states

-- the first run that breaks the demand in this state, or none
abbrev pub IsFirstIn : RegisterFile → PolicyRow → Option Run → Type 0
IsFirstIn file row = IsFirstOf file (IsBroken file row) row

-- the first breach in the states after `from` steps to after `to` steps, both included: first in time, and then in
-- address
pub record IsFirstBreach (state : ℕ → RegisterFile) (row : PolicyRow) (from to : ℕ) (breach : Breach) : Type 0 where
  pub after : from ≤ breach.done
  pub until : breach.done ≤ to
  pub before : (done : ℕ) → from ≤ done → done < breach.done → IsFirstIn (state done) row None
  pub here : IsFirstIn (state breach.done) row (Some breach.run)

-- that breach, or none if no state has one
abbrev pub IsFirstOfAll : (state : ℕ → RegisterFile) → PolicyRow → (from to : ℕ) → Option Breach → Type 0
IsFirstOfAll state row from to None = (done : ℕ) → from ≤ done → done ≤ to → IsFirstIn (state done) row None
IsFirstOfAll state row from to (Some breach) = IsFirstBreach state row from to breach

-- the first run that isn't held in the last state, or none
abbrev pub IsFirstNotHeld : (state : ℕ → RegisterFile) → PolicyRow → (to : ℕ) → Option Breach → Type 0
IsFirstNotHeld state row to None = IsFirstOf (state to) (IsNotHeld (state to) row) row None
IsFirstNotHeld state row to (Some breach) =
    (breach.done ≡ to) × IsFirstOf (state to) (IsNotHeld (state to) row) row (Some breach.run)

-- `held` checks the locks only if no byte is open
abbrev pub IsVerdictBy : Demand → (state : ℕ → RegisterFile) → PolicyRow → (from to : ℕ) → Option Breach → Type 0
IsVerdictBy Never state row from to verdict = IsFirstOfAll state row from to verdict
IsVerdictBy Always state row from to verdict = IsFirstOfAll state row from to verdict
IsVerdictBy Held state row from to verdict = (IsSome verdict × IsFirstOfAll state row from to verdict)
    ⊎ (IsFirstOfAll state row from to None × IsFirstNotHeld state row to verdict)

-- the row's first breach, or none if it holds
abbrev pub IsBreachOf : Pace → ScriptContents → PolicyRow → Option Breach → Type 0
IsBreachOf pace script row = IsVerdictBy row.demand (state_after pace script) row
    (step_count pace script.batches row.from) (step_count pace script.batches row.to)

-- if the row's moments come, it holds or has such a breach; else it is unmet
abbrev pub IsVerdictOn : Coming → (IsSo : Option Breach → Type 0) → Verdict → Type 0
IsVerdictOn coming.Met IsSo Holds = IsSo None
IsVerdictOn coming.Met IsSo (Broken breach) = IsSo (Some breach)
IsVerdictOn coming.Met IsSo (Unmet waived) = ⊥
IsVerdictOn coming.Unmet IsSo verdict = verdict ≡ Unmet false
IsVerdictOn coming.Waived IsSo verdict = verdict ≡ Unmet true

-- whether the row holds, and its first breach if it doesn't
abbrev pub IsVerdict : Pace → ScriptContents → PolicyRow → Verdict → Type 0
IsVerdict pace script row = IsVerdictOn row.coming (IsBreachOf pace script row)

-- ---- one row's answer

-- the script has these contents, the fields form a row for it, and there is one row, its verdict with this number
pub record VerdictSays (pace : Pace) (script : List ℕ) (number : ℕ) (fields : PolicyFields) (verdict : Verdict)
    (answer : List RowValue) : Type 0 where
  pub contents : ScriptContents
  pub script_means : script_meaning script ≡ Ok contents
  pub row : PolicyRow
  pub row_is : policy_fields row ≡ fields
  pub proper : proper_fields_fault (length contents.batches) fields ≡ None
  pub judged : IsVerdict pace contents row verdict
  pub answer_is : answer ≡ verdict_row number verdict None ∷ []

-- the script's own fault, or else that of the row with this number
abbrev pub VerdictRefuses : (script : List ℕ) → (number : ℕ) → PolicyFields → Fault → Type 0
VerdictRefuses script number fields fault = ScriptRefuses script fault
    ⊎ ((contents : ScriptContents) × (script_meaning script ≡ Ok contents)
    × (option_map (at_row source.Policy number) (proper_fields_fault (length contents.batches) fields) ≡ Some fault))

-- ---- a faulty policy

-- the script has no fault, and the policy has this one
pub record IsFaultyPolicy (script policy : List ℕ) (fault : Fault) : Type 0 where
  pub contents : ScriptContents
  pub script_means : script_meaning script ≡ Ok contents
  pub moments : KnownMoments
  pub moments_are : AreMoments contents moments
  pub policy_means : policy_meaning moments policy ≡ Err fault

-- the script's own fault, or else the policy's
abbrev pub PolicyRefuses : (script policy : List ℕ) → Fault → Type 0
PolicyRefuses script policy fault = ScriptRefuses script fault ⊎ IsFaultyPolicy script policy fault
