-- Why no script is appended for the plan in a text.
use Rattle.std.specs.Prelude.{◌≡◌, ◌⊎◌, ℕ, ◌<◌, List, length, Ok, Err, map}
use Rattle.pmp_core.specs.declared.hart.Profile.{Profile}
use Rattle.pmp_core.specs.RegisterFile.{reset_file}
use Rattle.pmp_text.specs.declared.script.reader.TheConstants.{MAX_SCRIPT}
use Rattle.pmp_text.specs.declared.fault.Fault.{Fault}
use Rattle.pmp_text.specs.Outcomes.{no_memory}
use Rattle.pmp_plan.specs.declared.plan_row.PlanRow.{PlanRow}
use Rattle.pmp_plan.specs.declared.security.Security.{Security}
use Rattle.pmp_plan.specs.KeptRows.{said}
use Rattle.pmp_plan.specs.PlanAnswers.{Untold, too_long}
use Rattle.pmp_plan.specs.PlanTexts.{plan_said}
use Rattle.pmp_plan.specs.Routes.{plain}

-- the text is too long or no plan, or there are no writes for it; or memory ran out
pub data HasNoScript (hart : Profile) (security : Security) (plan : List ℕ) : Fault → Type 0 where
  long : MAX_SCRIPT < length plan → HasNoScript hart security plan too_long
  no_rows : (fault : Fault) → (fault ≡ no_memory) ⊎ (plan_said plan ≡ Err fault)
      → HasNoScript hart security plan fault
  no_script : (rows : List PlanRow) (fault : Fault) → plan_said plan ≡ Ok (map said rows)
      → Untold (reset_file hart) (plain security) rows fault → HasNoScript hart security plan fault
