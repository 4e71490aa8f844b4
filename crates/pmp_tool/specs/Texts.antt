-- The text of a request's answer, and why it has none.
use Rattle.std.specs.Prelude.{◌≡◌, ◌⊎◌, ℕ, List, map, Bool, true, false, Option, Some, None, option_map}
use Rattle.clap.specs.Words.{Text}
use Rattle.pmp_core.specs.RegisterFile.{RegisterFile, reset_file}
use Rattle.pmp_text.specs.Cells.{RowValue}
use Rattle.pmp_text.specs.MetNames.{Named}
use Rattle.pmp_text.specs.declared.moments.When.{When}
use Rattle.pmp_text.specs.declared.refusal.Refusal.{Refusal}
use Rattle.pmp_text.specs.declared.refusal.Refusal.TheVariants.{Memory}
use Rattle.pmp_text.specs.declared.script.reader.TheConstants.{MAX_HEADED_SCRIPT}
use Rattle.pmp_names.specs.WholeRows.{whole}
use Rattle.pmp_text.specs.declared.fault.Fault.{Fault}
use Rattle.pmp_plan.specs.PlanAnswers.{PlanFails, Tells}
use Rattle.pmp_plan.specs.PlansOf.{IsPlanOfScript, Leaves, LeavesNone}
use Rattle.pmp_audit.specs.AskedFile.{FileRefuses, ScriptRefuses}
use Rattle.pmp_audit.specs.PolicyDraft.{DraftSays}
use Rattle.pmp_audit.specs.View.{ViewSays}
use Rattle.pmp_tool.specs.declared.argument.Argument.TheVariants.{After}
use Rattle.pmp_tool.specs.declared.failure.Failure.{Failure}
use Rattle.pmp_tool.specs.declared.harts.Harts.{Harts}
use Rattle.pmp_tool.specs.declared.outcome.Outcome.{Outcome}
use Rattle.pmp_tool.specs.declared.outcome.Outcome.TheVariants.{Listed}
use Rattle.pmp_tool.specs.declared.request.Plan.{Plan}
use Rattle.pmp_tool.specs.declared.request.Question.{Question}
use Rattle.pmp_tool.specs.declared.request.Printed.{Printed}
use Rattle.pmp_tool.specs.declared.request.Printed.TheVariants as printed
use Rattle.pmp_tool.specs.declared.row_format.AskedFormat.{AskedFormat}
use Rattle.pmp_tool.specs.Failures.{refused, failed}
use Rattle.pmp_tool.specs.HartComparisons.{ComparisonFails, ComparisonSays}
use Rattle.pmp_tool.specs.Harts.{AreFound, AreUnfound, HartsFail, HartsSay}
use Rattle.pmp_tool.specs.Inputs.{AreBytesOf, CantBeRead, Inputs, Paths}
use Rattle.pmp_tool.specs.Questions.{InputFails, IsDeclined, MomentFails, PathFails, PathSays, names_for, unscripted}
use Rattle.pmp_tool.specs.RowFormats.{formed}

module _ (scripts : Inputs) where
  -- ---- plans

  -- these are the registers which a plan's writes begin with
  abbrev pub IsStart : Plan → RegisterFile → Type 0
  IsStart plan start = elim (option_map (λ path. path.now) plan.from) [
    | None ↦ start ≡ reset_file plan.hart
    | Some path ↦ (script : List ℕ) × AreBytesOf (scripts path) script × Leaves script start
  ]

  -- the script that leaves them can't be read, or is none
  pub data NoStart (plan : Plan) : Failure → Type 0 where
    unread_start : (path : Text) (fault : Refusal) → option_map (λ path. path.now) plan.from ≡ Some path
        → CantBeRead MAX_HEADED_SCRIPT (scripts path) fault → NoStart plan (refused fault)
    no_start : (path : Text) (script : List ℕ) (fault : Fault)
        → option_map (λ path. path.now) plan.from ≡ Some path → AreBytesOf (scripts path) script
        → LeavesNone script fault → NoStart plan (failed fault)

  pub record PlanTextSays (plan : Plan) (text : List ℕ) : Type 0 where
    pub rows : List ℕ
    pub rows_read : AreBytesOf (scripts plan.plan.now) rows
    pub start : RegisterFile
    pub is_start : IsStart plan start
    pub tells : Tells start plan.wanted.aim plan.wanted.form rows text

  pub data PlanTextFails (plan : Plan) : Failure → Type 0 where
    no_plan_text : (fault : Refusal) → CantBeRead MAX_HEADED_SCRIPT (scripts plan.plan.now) fault
        → PlanTextFails plan (refused fault)
    unstarted : (failure : Failure) → NoStart plan failure → PlanTextFails plan failure
    unplanned_rows : (rows : List ℕ) (start : RegisterFile) (fault : Fault)
        → AreBytesOf (scripts plan.plan.now) rows → IsStart plan start
        → PlanFails start plan.wanted.aim rows fault → PlanTextFails plan (failed fault)

  -- ---- texts of one script

  pub record ScriptSays (path : Text) (Says : (script text : List ℕ) → Type 0) (text : List ℕ) : Type 0 where
    pub script : List ℕ
    pub read : AreBytesOf (scripts path) script
    pub says : Says script text

  pub data ShowFails (path : Text) (when : Option When) : Failure → Type 0 where
    no_shown_script : (fault : Refusal) → CantBeRead MAX_HEADED_SCRIPT (scripts path) fault
        → ShowFails path when (unscripted when (refused fault))
    unshown : (script : List ℕ) (failure : Failure) → AreBytesOf (scripts path) script
        → MomentFails script After when (IsDeclined (FileRefuses script when)) failure → ShowFails path when failure

  -- the script can't be read, or is none
  abbrev pub ScriptFails : (path : Text) → Failure → Type 0
  ScriptFails path =
      InputFails MAX_HEADED_SCRIPT (scripts path) refused (λ script. IsDeclined (ScriptRefuses script))

-- the names of ranges are given, if any are
module _ (paths : Paths) (names : Option (List Named)) where
  -- ---- a question about the script at a path, or about each script of a folder

  module _ (path : Text) (question : Question) where
    pub data AskSays (outcome : Outcome) : (has_hart : Bool) → List RowValue → Type 0 where
      of_one : (rows : List RowValue) → AreFound paths.folders path question None
          → PathSays paths path question outcome rows
          → AskSays outcome false (map (whole None (names_for question names)) rows)
      of_harts : (harts : Harts) (rows : List RowValue) → AreFound paths.folders path question (Some harts)
          → HartsSay paths path question harts (names_for question names) outcome rows → AskSays outcome true rows

    pub data AskFails : Failure → Type 0 where
      no_harts : (failure : Failure) → AreUnfound paths.folders path question failure → AskFails failure
      one_fails : (failure : Failure) → AreFound paths.folders path question None
          → PathFails paths path question failure → AskFails failure
      harts_fail : (harts : Harts) (failure : Failure) → AreFound paths.folders path question (Some harts)
          → HartsFail paths path question harts failure → AskFails failure

  -- ---- requests whose text is printed at once

  module _ (form : Option AskedFormat) where
    abbrev pub TextSays : Printed → Outcome → (text : List ℕ) → Type 0
    TextSays (printed.Ask path question) outcome text =
        (has_hart : Bool) × ((rows : List RowValue) × AskSays path.now question outcome has_hart rows
        × (text ≡ formed form has_hart rows))
    TextSays (printed.Harts folder has_locks) outcome text =
        (rows : List RowValue) × ComparisonSays paths folder.now has_locks names outcome rows
        × (text ≡ formed form true rows)
    TextSays (printed.Show show) Listed text =
        ScriptSays paths.scripts show.script.now (λ script. ViewSays show.view names script show.after tt) text
    TextSays (printed.Plan plan) Listed text = PlanTextSays paths.scripts plan text
    TextSays (printed.PlanOf path) Listed text = ScriptSays paths.scripts path.now IsPlanOfScript text
    TextSays (printed.PolicyFrom path) Listed text = ScriptSays paths.scripts path.now (λ script. DraftSays script tt) text
    TextSays _ _ _ = ⊥

  abbrev pub PrintedFails : Printed → Failure → Type 0
  PrintedFails (printed.Ask path question) = AskFails path.now question
  PrintedFails (printed.Harts folder has_locks) = ComparisonFails paths folder.now has_locks
  PrintedFails (printed.Show show) = ShowFails paths.scripts show.script.now show.after
  PrintedFails (printed.Plan plan) = PlanTextFails paths.scripts plan
  PrintedFails (printed.PlanOf path) = ScriptFails paths.scripts path.now
  PrintedFails (printed.PolicyFrom path) = ScriptFails paths.scripts path.now

  -- it has no answer, or memory ran out
  abbrev pub TextFails : Printed → Failure → Type 0
  TextFails printed failure = (failure ≡ refused Memory) ⊎ PrintedFails printed failure
