-- A script whose writes lead to a plan.
use Rattle.std.specs.Prelude.{◌≡◌, ℕ, List, [], Ok, Some}
use Rattle.pmp_core.specs.Histories.{joined}
use Rattle.pmp_core.specs.RegisterFile.{RegisterFile}
use Rattle.pmp_text.specs.Contents.{ScriptContents}
use Rattle.pmp_text.specs.Scripts.{script_meaning}
use Rattle.pmp_plan.specs.declared.aim.Aim.{Aim}
use Rattle.pmp_plan.specs.declared.plan_row.PlanRow.{PlanRow}
use Rattle.pmp_plan.specs.Routes.{Leads}

-- the text is a script that begins with these registers, expects nothing and names no moment, and whose writes lead to
-- the plan
pub record MeansPlan (start : RegisterFile) (aim : Aim) (rows : List PlanRow) (text : List ℕ) : Type 0 where
  pub contents : ScriptContents
  pub means : script_meaning text ≡ Ok contents
  pub start_is : contents.start ≡ start
  pub expects : contents.expectations ≡ []
  pub names : contents.marks ≡ Some []
  pub leads : Leads start aim rows (joined contents.batches)
