-- What is returned of a plan beside a script.
use Rattle.std.specs.Prelude.{◌≡◌, ◌⊎◌, ℕ, ◌+◌, ◌/◌, ◌%◌, ◌==◌, nat_lt, List, [], Err, Option, Some, None, if◌then◌else◌}
use Rattle.pmp_core.specs.RegisterFile.{RegisterFile, reset_file}
use Rattle.pmp_text.specs.Outcomes.{no_memory}
use Rattle.pmp_text.specs.declared.moments.When.TheVariants.{Number}
use Rattle.pmp_text.specs.declared.refusal.Refusal.TheVariants.{BadWord}
use Rattle.pmp_text.specs.declared.fault.Fault.{Fault}
use Rattle.pmp_audit.specs.AskedFile.{FileRefuses}
use Rattle.pmp_audit.specs.ScriptDiff.{GivesFile}
use Rattle.pmp_plan.specs.PlanAnswers.{Tells}
use Rattle.pmp_plan.specs.PlanRooms.{HasNoScript}
use Rattle.pmp_plan.specs.PlanTexts.{plan_said}
use Rattle.pmp_plan.specs.Routes.{plain}
use Rattle.pmp_plan.specs.Verdicts.{VerdictsSay}
use Rattle.pmp_plan.specs.declared.answer.Form.TheVariants as form
use Rattle.pmp_plan.specs.declared.security.Security.{Security}
use Rattle.pmp_web.specs.Answers.{IsRefusal, IsRefused, IsUnasked}
use Rattle.pmp_web.specs.Rooms.{text_in}
use Rattle.pmp_web.specs.declared.rooms.Answer.{Answer}

-- MML in bit 0, MMWP in bit 1, RLB in bit 2, as mseccfg has them (Smepmp), and no other bit
abbrev pub security_of : ℕ → Option Security
security_of value = if nat_lt 7 value then None else Some (record {
  mml = value % 2 == 1;
  mmwp = value / 2 % 2 == 1;
  rlb = value / 4 % 2 == 1;
})

-- the plan is refused, with 256 added to the number, and the row in the place of the line; the room is empty
pub record IsPlanRefusal (Refuses : Fault → Type 0) (status : ℕ) (room : Answer) : Type 0 where
  pub fault : Fault
  pub why : Refuses fault
  pub told : IsRefused 256 fault status room

-- the room holds a text that satisfies Says, or the plan is refused
abbrev pub TellsOfPlan : (Says : List ℕ → Type 0) → (Refuses : Fault → Type 0) → (status : ℕ) → Answer → Type 0
TellsOfPlan Says Refuses status room =
    ((status ≡ 0) × (room.line ≡ 0) × Says (text_in room)) ⊎ IsPlanRefusal Refuses status room

-- the script gives a file after so many publications, of which the plan is told; or the script is refused
abbrev pub AnswersOfPlan : (Says : RegisterFile → List ℕ → Type 0) → (Refuses : RegisterFile → Fault → Type 0)
    → (script : List ℕ) → (after status : ℕ) → Answer → Type 0
AnswersOfPlan Says Refuses script after status room =
    ((file : RegisterFile) × GivesFile script (Some (Number after)) file × TellsOfPlan (Says file) (Refuses file) status room)
    ⊎ IsRefusal (FileRefuses script (Some (Number after))) status room

-- the text is the script that makes the plan's registers on the file's hart
abbrev pub PlanScriptSays : RegisterFile → Security → (plan text : List ℕ) → Type 0
PlanScriptSays file security plan text = Tells (reset_file file.profile) (plain security) form.Script plan text

-- the plan's text is at fault, or its rows have no room
abbrev pub HasNoVerdicts : (plan : List ℕ) → Fault → Type 0
HasNoVerdicts plan fault = (fault ≡ no_memory) ⊎ (plan_said plan ≡ Err fault)

-- the rows of the plan are judged in the file after so many publications
abbrev pub AnswersMeets : (script plan : List ℕ) → (after status : ℕ) → Answer → Type 0
AnswersMeets script plan after = AnswersOfPlan (λ file. VerdictsSay file plan) (λ file. HasNoVerdicts plan) script after

-- the plan's script is for the hart of the script, with the bits of mseccfg that the number names, or it names none
abbrev pub AnswersPlan : (script plan : List ℕ) → Option Security → (status : ℕ) → Answer → Type 0
AnswersPlan script plan None status room = IsUnasked BadWord status room
AnswersPlan script plan (Some security) status room =
    AnswersOfPlan (λ file. PlanScriptSays file security plan) (λ file. HasNoScript file.profile security plan) script 0
    status room
