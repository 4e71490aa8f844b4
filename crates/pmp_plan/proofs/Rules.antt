-- What an entry gives by the rule that it keeps, and that all rules have bytes.
use Rattle.std.proofs.Common.{◌≡◌, ◌∙◌, ap, refl, ℕ, ◌+◌, ◌*◌, ◌/◌, ◌%◌, ◌<◌, ◌==◌, Bool, false, true, Some, arith}
use Rattle.std.proofs.Common.{get_or-set_same, length, if◌then◌else◌, slice_index, slice_set, subst, sym}
use Rattle.std.proofs.lemmas.Bool.{agree_below_at, eqb-true}
use Rattle.std.proofs.lemmas.List.FromFn.{length-map-range_with_len}
use Rattle.pmp_core.specs.Configuration.{Configuration, bit_of, byte_of, configuration_of}
use Rattle.pmp_core.specs.declared.hart.Profile.{Profile}
use Rattle.pmp_core.specs.declared.size.Size.TheVariants.{Sixteen}
use Rattle.pmp_core.specs.Hart.{profile_of, profile_with}
use Rattle.pmp_core.specs.RegisterFile.{RegisterFile, entry_at, reset_entry, reset_file}
use Rattle.pmp_core.specs.RegisterWrite.{stored_over, without_reserved}
use Rattle.pmp_core.specs.SavedRegisters.{fields_in, hart_in, hart_number, restored_entry, restored_file, saved_hart}
use Rattle.pmp_core.specs.SavedRegisters.{saved_registers}
use Rattle.pmp_core.specs.declared.configuration.AddressMatching.TheVariants.{Off}
use Rattle.pmp_core.specs.declared.mseccfg.MseccfgFields.{MseccfgFields}
use Rattle.pmp_core.specs.Entry.{Entry}
use Rattle.pmp_core.specs.declared.saved_registers.SavedRegisters.{SavedRegisters}
use Rattle.pmp_core.proofs.Saved.{fields_back, length-restored, restored_at}
use Rattle.pmp_core.proofs.StoredBytes.{bit_le, configuration_back}
use Rattle.pmp_map.specs.Answers.{rights_by}
use Rattle.pmp_plan.specs.declared.choices.TheConstants.{RULES}
use Rattle.pmp_plan.specs.declared.plan_row.Demand.{Demand}
use Rattle.pmp_plan.specs.declared.security.Security.{Security}
use Rattle.pmp_plan.specs.PlanRules.{IsRuleFor, rule_pair}
use Rattle.pmp_plan.specs.Plans.{security_value}
use Rattle.pmp_plan.specs.StoredRules.{stored_rule}

-- the byte at a place among those of all rules
byte_at : (place : ℕ) → place < 16 → slice_index RULES place ≡ 128 * (place / 8) + place % 8
byte_at place few = eqb-true _ _
    (agree_below_at (λ p. slice_index RULES p == 128 * (p / 8) + p % 8) (λ _. true) 16 place refl few)

-- A doesn't matter
off_alike : (security : Security) (mml : Bool) → security.mml ≡ mml → (rule : Configuration)
    → rule_pair security (record rule { matching = Off }) ≡ rule_pair security rule
off_alike security false is rule = rw is refl
off_alike security true is rule = rw is refl

-- a rule that serves has a byte
pub has_byte : (security : Security) (demand : Demand) (rule : Configuration) → IsRuleFor security demand rule
    → (place : ℕ) × (place < 16) × IsRuleFor security demand (configuration_of (slice_index RULES place))
has_byte security demand rule is =
    let off : Configuration = record rule { matching = Off } in
    let place = 8 * bit_of rule.locked + 4 * bit_of rule.execute + 2 * bit_of rule.write + bit_of rule.read in
    let few : place < 16 =
    omega (arith, bit_le rule.locked, bit_le rule.execute, bit_le rule.write, bit_le rule.read) in
    let byte : slice_index RULES place ≡ byte_of off = byte_at place few
    ∙ omega (arith, bit_le rule.locked, bit_le rule.execute, bit_le rule.write, bit_le rule.read) in
    let back : configuration_of (slice_index RULES place) ≡ off = ap configuration_of byte ∙ configuration_back off in (
      place,
      few,
      subst (IsRuleFor security demand) (sym back) (record {
        legal = is.legal;
        rights = off_alike security security.mml refl rule ∙ is.rights;
        holds = is.holds;
      }),
    )

-- what an entry gives that has the rule
given : (file : RegisterFile) (security : Security) (rule : Configuration) → file.mseccfg.mml ≡ security.mml
    → (entry_at file.entries 0).configuration ≡ rule → rights_by file (Some 0) ≡ rule_pair security rule
given file security rule mml is = rw (mml, is) refl

stored : (mml : Bool) (byte : ℕ) → stored_over 0 mml true reset_entry.configuration byte
    ≡ (if mml then configuration_of byte else without_reserved (configuration_of byte))
stored true byte = refl
stored false byte = refl

-- of a hart of 16 entries
module _ (saved : SavedRegisters) (hart : saved.entries ≡ 16) where
  is_sixteen : hart_in saved ≡ profile_with 16
  unfolding saved_hart
  is_sixteen = rw hart refl

  module _ (security : Security) (bits : saved.mseccfg ≡ security_value security) where
    fields_are : fields_in saved ≡ record { mml = security.mml; mmwp = security.mmwp; rlb = security.rlb }
    fields_are = rw (is_sixteen, bits) (fields_back security.mml security.mmwp security.rlb)

    module _ (byte : ℕ) (at : slice_index saved.configurations 0 ≡ byte) where
      first_rule : (restored_entry saved 0).configuration ≡ stored_rule security byte
      first_rule = rw (fields_are, is_sixteen, at) (stored security.mml byte)

      first_entry : entry_at (restored_file saved).entries 0 ≡ restored_entry saved 0
      unfolding restored_file
      first_entry = restored_at saved (hart_in saved).entries 0 (rw is_sixteen (omega arith))

      mml_is : (restored_file saved).mseccfg.mml ≡ security.mml
      unfolding restored_file
      mml_is = ap (λ (it : MseccfgFields). it.mml) fields_are

      -- what an entry gives that keeps the byte
      pub stored_rights : rights_by (restored_file saved) (Some 0) ≡ rule_pair security (stored_rule security byte)
      stored_rights =
          given (restored_file saved) security (stored_rule security byte) mml_is
          (ap (λ (it : Entry). it.configuration) first_entry ∙ first_rule)

-- the saved registers of reset on a hart of 16 entries, of which one byte is set

pub sixteen : (reset : SavedRegisters) (hart : Profile) → hart ≡ profile_of Sixteen
    → reset ≡ saved_registers (reset_file hart) → reset.entries ≡ 16
unfolding saved_registers hart_number
sixteen reset hart is saved = rw (saved, is) refl

pub set_first : (reset : SavedRegisters) (hart : Profile) (byte : ℕ) → reset ≡ saved_registers (reset_file hart)
    → slice_index (slice_set reset.configurations 0 byte) 0 ≡ byte
unfolding saved_registers
set_first reset hart byte saved =
    get_or-set_same reset.configurations 0 byte 0
    (rw saved (omega (arith, length-map-range_with_len (λ i. byte_of (entry_at (reset_file hart).entries i).configuration) 0 64)))

pub has_entries : (saved : SavedRegisters) → saved.entries ≡ 16 → 0 < length (restored_file saved).entries
unfolding restored_file saved_hart
has_entries saved hart = rw hart (omega (arith, length-restored saved 16))
