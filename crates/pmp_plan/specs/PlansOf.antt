-- The plan that a script's registers meet.
use Rattle.std.specs.Prelude.{◌≡◌, ◌⊎◌, ℕ, List, Ok, Err, map}
use Rattle.std.specs.List.{AllPairs}
use Rattle.pmp_core.specs.RegisterFile.{RegisterFile}
use Rattle.pmp_text.specs.Contents.{ScriptContents}
use Rattle.pmp_text.specs.Outcomes.{no_memory}
use Rattle.pmp_text.specs.Reports.{file_behind}
use Rattle.pmp_text.specs.Scripts.{script_meaning}
use Rattle.pmp_text.specs.declared.fault.Fault.{Fault}
use Rattle.pmp_plan.specs.declared.plan_row.PlanRow.{PlanRow}
use Rattle.pmp_plan.specs.declared.security.Security.{Security}
use Rattle.pmp_plan.specs.KeptRows.{said}
use Rattle.pmp_plan.specs.PlanFaults.{AreApart}
use Rattle.pmp_plan.specs.PlanTexts.{plan_said}
use Rattle.pmp_plan.specs.Plans.{MeetsPlan}

-- the text is a plan whose rows have no byte in common, and which the register file meets on its hart
pub record IsPlanOf (file : RegisterFile) (text : List ℕ) : Type 0 where
  pub rows : List PlanRow
  pub are : plan_said text ≡ Ok (map said rows)
  pub apart : AllPairs AreApart rows
  pub security : Security
  pub met : MeetsPlan file.profile security rows file

-- the register file is the one after all publications of a script
pub record Leaves (script : List ℕ) (file : RegisterFile) : Type 0 where
  pub contents : ScriptContents
  pub means : script_meaning script ≡ Ok contents
  pub file_is : file ≡ file_behind contents.start contents.batches

-- the text is no script, or memory ran out
abbrev pub LeavesNone : (script : List ℕ) → Fault → Type 0
LeavesNone script fault = (fault ≡ no_memory) ⊎ (script_meaning script ≡ Err fault)

-- the text is a plan of these registers
pub record IsPlanOfScript (script text : List ℕ) : Type 0 where
  pub file : RegisterFile
  pub left : Leaves script file
  pub plan : IsPlanOf file text
