-- Writes that lead to a plan, and what stays as it is from each to the next (Volume II, 3.7.1.3 and Smepmp).
use Rattle.std.specs.Prelude.{◌≡◌, ◌⊎◌, ℕ, ◌<◌, Bool, true, not, ◌||◌, List, [], fold, take, IfSome, None}
use Rattle.std.specs.List.{list_all}
use Rattle.pmp_core.specs.declared.access.Kind.{Kind}
use Rattle.pmp_core.specs.declared.access.Mode.{Mode}
use Rattle.pmp_core.specs.declared.access.Mode.TheVariants.{M, S, U}
use Rattle.pmp_core.specs.declared.access.TheConstants.{ADDRESS_LIMIT}
use Rattle.pmp_core.specs.declared.event.Event.{Event}
use Rattle.pmp_core.specs.Histories.{is_write}
use Rattle.pmp_core.specs.RegisterFile.{RegisterFile, reset_file}
use Rattle.pmp_core.specs.RegisterWrite.{step}
use Rattle.pmp_map.specs.OpenBytes.{IsAnswered}
use Rattle.pmp_plan.specs.declared.aim.Aim.{Aim}
use Rattle.pmp_plan.specs.declared.aim.Watch.{Watch}
use Rattle.pmp_plan.specs.declared.plan_row.PlanRow.{PlanRow}
use Rattle.pmp_plan.specs.declared.security.Security.{Security}
use Rattle.pmp_plan.specs.Plans.{MeetsPlan}

-- whether the mode may run between the writes
abbrev pub runs : Watch → Mode → Bool
runs watch M = true
runs watch S = not watch.is_machine_alone
runs watch U = not watch.is_machine_alone

-- in between, a byte is closed to a mode and a kind if it is so both before and after, and open if that is to be kept
abbrev pub StaysAs : Watch → (before during after : RegisterFile) → Type 0
StaysAs watch before during after =
    (byte : ℕ) (mode : Mode) (kind : Kind) (allowed : Bool) → byte < ADDRESS_LIMIT → runs watch mode ≡ true
    → (allowed ≡ true → watch.keeps_open ≡ true)
    → IsAnswered before allowed mode kind byte → IsAnswered after allowed mode kind byte
    → IsAnswered during allowed mode kind byte

-- so it is after each of the writes
abbrev pub IsSafe : Watch → (start : RegisterFile) → (writes : List Event) → Type 0
IsSafe watch start writes =
    (done : ℕ) → StaysAs watch start (fold step start (take done writes)) (fold step start writes)

-- the bits that a register file has
abbrev pub security_in : RegisterFile → Security
security_in file = record { mml = file.mseccfg.mml; mmwp = file.mseccfg.mmwp; rlb = file.mseccfg.rlb }

-- MML and MMWP stay set where they are (Smepmp)
abbrev pub lasting : RegisterFile → Security → Security
lasting file asked = record {
  mml = file.mseccfg.mml || asked.mml;
  mmwp = file.mseccfg.mmwp || asked.mmwp;
  rlb = asked.rlb;
}

-- nothing is asked of the way
abbrev pub plain : Security → Aim
plain security = record { security = security; watch = None }

-- none of the writes is a reset, the registers after them meet the plan, and each is safe if that is asked for
pub record Leads (start : RegisterFile) (aim : Aim) (rows : List PlanRow) (writes : List Event) : Type 0 where
  pub only : list_all is_write writes ≡ true
  pub met : MeetsPlan start.profile (lasting start aim.security) rows (fold step start writes)
  pub safe : IfSome aim.watch (λ watch. IsSafe watch start writes)

-- after reset, and nothing is asked of the way, or the plan has no rows
pub record IsPlain (start : RegisterFile) (aim : Aim) (rows : List PlanRow) : Type 0 where
  pub reset : start ≡ reset_file start.profile
  pub eased : (aim.watch ≡ None) ⊎ (rows ≡ [])
