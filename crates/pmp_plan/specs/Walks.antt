-- What a register file gives adjacent bytes.
use Rattle.std.specs.Prelude.{◌≡◌, ℕ, ◌<◌, ◌≤◌, false, true, List, Option}
use Rattle.pmp_core.specs.RegisterFile.{RegisterFile}
use Rattle.pmp_map.specs.declared.mode_rights.ModeRights.{ModeRights}
use Rattle.pmp_map.specs.Answers.{rights_by}
use Rattle.pmp_map.specs.OpenBytes.{holds}
use Rattle.pmp_map.specs.RightsRuns.{HasRights}
use Rattle.pmp_plan.specs.declared.plan_row.Demand.{Demand}
use Rattle.pmp_plan.specs.declared.plan_row.PlanRow.{PlanRow}
use Rattle.pmp_plan.specs.Plans.{Gives, is_named}

-- bytes of this owner get what is asked
pub record OwnerGives (file : RegisterFile) (owner : Option ℕ) (demand : Demand) : Type 0 where
  pub rights : rights_by file owner ≡ demand.rights
  pub held : demand.is_locked ≡ true → holds file owner ≡ true

-- each from the first to the last gets what is asked
abbrev pub GivesFrom : RegisterFile → Demand → (first last : ℕ) → Type 0
GivesFrom file demand first last = (byte : ℕ) → first ≤ byte → byte ≤ last → Gives file demand byte

-- each below `end` that no row has gets these rights
abbrev pub GivesRest : RegisterFile → List PlanRow → ModeRights → (end : ℕ) → Type 0
GivesRest file rows rights end = (byte : ℕ) → byte < end → is_named rows byte ≡ false → HasRights file byte rights
