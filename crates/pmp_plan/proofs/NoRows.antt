-- mseccfg alone meets a plan without rows.
use Rattle.std.proofs.Common.{◌≡◌, ◌≢◌, ap, arith, refl, sym, ℕ, zero, suc, ◌<◌, ◌≤◌, ◌==◌, ◌∷◌, [], Bool, false, true, List, None}
use Rattle.std.proofs.Common.{if◌then◌else◌, length, nat_eq, replicate}
use Rattle.std.proofs.lemmas.Bool.{eqb-true, lt-ltb}
use Rattle.std.proofs.lemmas.List.{length-replicate}
use Rattle.std.specs.List.{list_all}
use Rattle.pmp_core.specs.declared.csr.Csr.TheVariants.{Mseccfg}
use Rattle.pmp_core.specs.declared.event.Event.TheVariants.{Write}
use Rattle.pmp_core.specs.declared.hart.Profile.{Profile}
use Rattle.pmp_core.specs.declared.mseccfg.MseccfgFields.{MseccfgFields}
use Rattle.pmp_core.specs.Histories.{is_write, replay}
use Rattle.pmp_core.specs.Matching.{Matches}
use Rattle.pmp_core.specs.RegisterFile.{RegisterFile, file_of, reset_entry}
use Rattle.pmp_core.specs.RegisterWrite.{is_any_locked}
use Rattle.pmp_core.proofs.Legal.{reset_at}
use Rattle.pmp_map.specs.RightsRuns.{HasRights}
use Rattle.pmp_plan.specs.declared.security.Security.{Security}
use Rattle.pmp_plan.specs.NoRows.{security_writes}
use Rattle.pmp_plan.specs.PlanFaults.{Makes}
use Rattle.pmp_plan.specs.Plans.{MeetsPlan, no_security, rest_rights, security_value}

-- the bits of mseccfg, as a file has them
abbrev fields : Security → MseccfgFields
fields security = record { mml = security.mml; mmwp = security.mmwp; rlb = security.rlb }

abbrev bits : (mml mmwp rlb : Bool) → Security
bits mml mmwp rlb = record { mml = mml; mmwp = mmwp; rlb = rlb }

none_locked : (n : ℕ) → is_any_locked (replicate n reset_entry) ≡ false
none_locked zero = refl
none_locked (suc n) = none_locked n

-- one write of mseccfg, or none
only_by : (is : Bool) (value : ℕ) → list_all is_write (if is then [] else Write Mseccfg value ∷ []) ≡ true
only_by true value = refl
only_by false value = refl

few_by : (is : Bool) (value : ℕ) → length (if is then [] else Write Mseccfg value ∷ []) ≤ 1
few_by true value = omega arith
few_by false value = omega arith

module _ (hart : Profile) (some : 0 < hart.entries) where
  -- the hart with these bits, and each entry as reset leaves it
  abbrev secured_file : Security → RegisterFile
  secured_file security = file_of hart (fields security) (replicate hart.entries reset_entry)

  matches_nothing : (security : Security) (byte i : ℕ) → Matches (secured_file security) i byte → ⊥
  matches_nothing security byte i matches = rw (reset_at hart.entries i) at matches

  given : (security : Security) (byte : ℕ) → HasRights (secured_file security) byte (rest_rights security)
  given security byte = (
    None,
    λ i matches. matches_nothing security byte i matches,
    rw (length-replicate hart.entries reset_entry, lt-ltb 0 hart.entries some) refl,
  )

  meets : (security : Security) → MeetsPlan hart security [] (secured_file security)
  meets security = record {
    hart_is = refl;
    secured = refl;
    met = λ place row few. absurd (omega (arith, few));
    rest = λ byte below unnamed. given security byte;
  }

  -- what the one write leaves
  written_by : (mml mmwp rlb : Bool) → hart.has_smepmp ≡ true
      → replay hart (Write Mseccfg (security_value (bits mml mmwp rlb)) ∷ []) ≡ secured_file (bits mml mmwp rlb)
  written_by false false false has = rw has refl
  written_by false true false has = rw has refl
  written_by true false false has = rw has refl
  written_by true true false has = rw has refl
  written_by false false true has = rw (has, none_locked hart.entries) refl
  written_by false true true has = rw (has, none_locked hart.entries) refl
  written_by true false true has = rw (has, none_locked hart.entries) refl
  written_by true true true has = rw (has, none_locked hart.entries) refl

  smepmp_by : (has : Bool) (security : Security) → (has ≡ false → security ≡ no_security)
      → security_value security ≢ 0 → has ≡ true
  smepmp_by true security kept asked = refl
  smepmp_by false security kept asked = absurd (asked (ap security_value (kept refl)))

  met_by_write : (mml mmwp rlb : Bool) → (hart.has_smepmp ≡ false → bits mml mmwp rlb ≡ no_security)
      → security_value (bits mml mmwp rlb) ≢ 0
      → MeetsPlan hart (bits mml mmwp rlb) [] (replay hart (Write Mseccfg (security_value (bits mml mmwp rlb)) ∷ []))
  met_by_write mml mmwp rlb kept asked =
      let has = smepmp_by hart.has_smepmp (bits mml mmwp rlb) kept asked in
      rw (written_by mml mmwp rlb has) (meets (bits mml mmwp rlb))

  met_by_bits : (mml mmwp rlb : Bool) → (hart.has_smepmp ≡ false → bits mml mmwp rlb ≡ no_security)
      → MeetsPlan hart (bits mml mmwp rlb) [] (replay hart (security_writes (bits mml mmwp rlb)))
  met_by_bits false false false kept = meets no_security
  met_by_bits false false true kept = met_by_write false false true kept (λ e. absurd (omega (arith, e)))
  met_by_bits false true false kept = met_by_write false true false kept (λ e. absurd (omega (arith, e)))
  met_by_bits false true true kept = met_by_write false true true kept (λ e. absurd (omega (arith, e)))
  met_by_bits true false false kept = met_by_write true false false kept (λ e. absurd (omega (arith, e)))
  met_by_bits true false true kept = met_by_write true false true kept (λ e. absurd (omega (arith, e)))
  met_by_bits true true false kept = met_by_write true true false kept (λ e. absurd (omega (arith, e)))
  met_by_bits true true true kept = met_by_write true true true kept (λ e. absurd (omega (arith, e)))

  pub made_without_rows : (security : Security) → (hart.has_smepmp ≡ false → security ≡ no_security)
      → Makes hart security [] (security_writes security)
  made_without_rows security kept = record {
    only = only_by (security_value security == 0) (security_value security);
    met = met_by_bits security.mml security.mmwp security.rlb kept;
  }

pub few_without_rows : (security : Security) → length (security_writes security) ≤ 1
few_without_rows security = few_by (security_value security == 0) (security_value security)

pub no_rows : {A : Type 0} (rows : List A) → true ≡ nat_eq (length rows) 0 → rows ≡ []
no_rows [] is = refl
no_rows (row ∷ more) is = absurd (omega (arith, eqb-true (length (row ∷ more)) 0 (sym is)))
