-- The writes for a plan's text, and why there are none.
use Rattle.std.specs.Prelude.{◌≡◌, ◌⊎◌, ℕ, ◌<◌, ◌≤◌, List, length, Ok, Err, map}
use Rattle.std.specs.List.{AllPairs}
use Rattle.pmp_core.specs.declared.event.Event.{Event}
use Rattle.pmp_core.specs.RegisterFile.{RegisterFile}
use Rattle.pmp_text.specs.declared.fault.Fault.{Fault}
use Rattle.pmp_text.specs.declared.refusal.Refusal.TheVariants.{TooLong}
use Rattle.pmp_text.specs.declared.script.reader.TheConstants.{MAX_SCRIPT}
use Rattle.pmp_text.specs.Flaws.{as_whole, at_row}
use Rattle.pmp_text.specs.Outcomes.{no_memory}
use Rattle.pmp_plan.specs.declared.aim.Aim.{Aim}
use Rattle.pmp_plan.specs.declared.answer.Form.{Form}
use Rattle.pmp_plan.specs.declared.answer.Form.TheVariants.{Array, Script}
use Rattle.pmp_plan.specs.declared.plan_row.PlanRow.{PlanRow}
use Rattle.pmp_plan.specs.KeptRows.{said}
use Rattle.pmp_plan.specs.PlanArrays.{array_text}
use Rattle.pmp_plan.specs.PlanFaults.{AreApart, RefusesFrom}
use Rattle.pmp_plan.specs.PlanScripts.{MeansPlan}
use Rattle.pmp_plan.specs.PlanTexts.{plan_said}
use Rattle.pmp_plan.specs.Routes.{Leads}
use Rattle.pmp_text.specs.declared.fault.Source.TheVariants as source

-- the text has writes that lead from the registers to the plan: as a script that begins with them, or as an array
abbrev pub IsText : RegisterFile → Aim → Form → List PlanRow → (text : List ℕ) → Type 0
IsText start aim Script rows text = MeansPlan start aim rows text
IsText start aim Array rows text =
    (writes : List Event) × (text ≡ array_text writes) × Leads start aim rows writes

-- and no two rows have a byte in common
abbrev pub IsTold : RegisterFile → Aim → Form → List PlanRow → (text : List ℕ) → Type 0
IsTold start aim form rows text = AllPairs AreApart rows × IsText start aim form rows text

-- there are none, or memory ran out
abbrev pub Untold : RegisterFile → Aim → List PlanRow → Fault → Type 0
Untold start aim rows fault = (fault ≡ no_memory) ⊎ RefusesFrom start aim rows fault

abbrev pub too_long : Fault
too_long = at_row source.Plan 0 (as_whole TooLong)

module _ (start : RegisterFile) (aim : Aim) (form : Form) (plan : List ℕ) where
  -- the text of a plan is no longer than a script of version 1 may be, and has rows, and this text the writes for them
  pub record Tells (text : List ℕ) : Type 0 where
    pub fits : length plan ≤ MAX_SCRIPT
    pub rows : List PlanRow
    pub are : plan_said plan ≡ Ok (map said rows)
    pub told : IsTold start aim form rows text

-- why there are no writes for it
pub data PlanFails (start : RegisterFile) (aim : Aim) (plan : List ℕ) : Fault → Type 0 where
  long : MAX_SCRIPT < length plan → PlanFails start aim plan too_long
  no_plan : (fault : Fault) → (fault ≡ no_memory) ⊎ (plan_said plan ≡ Err fault)
      → PlanFails start aim plan fault
  no_writes : (rows : List PlanRow) (fault : Fault) → plan_said plan ≡ Ok (map said rows)
      → Untold start aim rows fault → PlanFails start aim plan fault
