-- What a plan means (Volume II, 3.7.1.2, 3.7.1.3 and Smepmp).
use Rattle.std.specs.Prelude.{◌≡◌, ℕ, ◌<◌, Bool, true, false, ◌&&◌, nat_le, List, All}
use Rattle.std.specs.List.{list_any}
use Rattle.pmp_core.specs.declared.access.TheConstants.{ADDRESS_LIMIT}
use Rattle.pmp_core.specs.declared.csr.Csr.TheVariants.{Mseccfg}
use Rattle.pmp_core.specs.declared.hart.Profile.{Profile}
use Rattle.pmp_core.specs.Mseccfg.{mseccfg_value}
use Rattle.pmp_core.specs.RegisterFile.{RegisterFile}
use Rattle.pmp_core.specs.RegisterValue.{register_value}
use Rattle.pmp_core.specs.Rights.{machine_default, nothing, perms_of}
use Rattle.pmp_map.specs.declared.mode_rights.ModeRights.{ModeRights}
use Rattle.pmp_map.specs.OpenBytes.{IsHeldByte}
use Rattle.pmp_map.specs.RightsRuns.{HasRights}
use Rattle.pmp_plan.specs.declared.plan_row.Demand.{Demand}
use Rattle.pmp_plan.specs.declared.plan_row.PlanRow.{PlanRow}
use Rattle.pmp_plan.specs.declared.security.Security.{Security}

-- the file gives the byte exactly these rights, and holds it if asked
pub record Gives (file : RegisterFile) (demand : Demand) (byte : ℕ) : Type 0 where
  pub rights : HasRights file byte demand.rights
  pub held : demand.is_locked ≡ true → IsHeldByte file byte

abbrev pub is_in : (byte : ℕ) → PlanRow → Bool
is_in byte row = nat_le row.first byte && nat_le byte row.last

-- it gives each byte of the row what the row asks
abbrev pub MeetsRow : RegisterFile → PlanRow → Type 0
MeetsRow file row = (byte : ℕ) → is_in byte row ≡ true → Gives file row.demand byte

-- some row has the byte
abbrev pub is_named : List PlanRow → (byte : ℕ) → Bool
is_named rows byte = list_any (is_in byte) rows

-- the rights if no entry matches, on a hart with entries: for M-mode by MML and MMWP, and none for S-mode and U-mode
abbrev pub rest_rights : Security → ModeRights
rest_rights security = record {
  machine = perms_of (machine_default security.mml security.mmwp);
  others = perms_of nothing;
}

-- none of the bits
abbrev pub no_security : Security
no_security = record { mml = false; mmwp = false; rlb = false }

-- its bits of mseccfg (Smepmp)
abbrev pub security_value : Security → ℕ
security_value security =
    mseccfg_value (record { mml = security.mml; mmwp = security.mmwp; rlb = security.rlb })

-- the hart and the value of mseccfg are those asked for; each row is met; and a byte of no row has the rights of a byte
-- that no entry matches
pub record MeetsPlan (hart : Profile) (security : Security) (rows : List PlanRow) (file : RegisterFile) : Type 0 where
  pub hart_is : file.profile ≡ hart
  pub secured : register_value file Mseccfg ≡ security_value security
  pub met : All (MeetsRow file) rows
  pub rest : (byte : ℕ) → byte < ADDRESS_LIMIT → is_named rows byte ≡ false
      → HasRights file byte (rest_rights security)
