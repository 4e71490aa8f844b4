-- A unit's registers as plain numbers, and the file that numbers encode (Volume II, 3.7.1 and Smepmp).
use Rattle.std.specs.Prelude.{◌≡◌, ℕ, ◌+◌, ◌*◌, ◌/◌, ◌%◌, ◌^◌, ◌==◌, Bool, true, not, ◌&&◌, ◌||◌}
use Rattle.std.specs.Prelude.{if◌then◌else◌}
use Rattle.std.specs.Prelude.{List, map, replicate, slice_index}
use Rattle.std.specs.Option.{is_none}
use Rattle.std.specs.List.{range_with_len}
use Rattle.pmp_core.specs.declared.csr.Csr.TheVariants.{Mseccfg}
use Rattle.pmp_core.specs.Entry.{Entry}
use Rattle.pmp_core.specs.declared.saved_registers.SavedRegisters.{SavedRegisters}
use Rattle.pmp_core.specs.declared.size.TheConstants.{MAX_ENTRIES}
use Rattle.pmp_core.specs.declared.register_file.TheConstants.{ENTRIES}
use Rattle.pmp_core.specs.declared.hart.TheConstants.{MAX_ADDRESS_BITS}
use Rattle.pmp_core.specs.Configuration.{bit_of, byte_of}
use Rattle.pmp_core.specs.declared.hart.Profile.{Profile}
use Rattle.pmp_core.specs.Hart.{hart_fault, profile_with, word_addresses}
use Rattle.pmp_core.specs.Mseccfg.{mseccfg_fields}
use Rattle.pmp_core.specs.declared.mseccfg.MseccfgFields.{MseccfgFields}
use Rattle.pmp_core.specs.RegisterFile.{RegisterFile, file_of, reset_entry, reset_mseccfg, entry_at}
use Rattle.pmp_core.specs.RegisterValue.{register_value}
use Rattle.pmp_core.specs.RegisterWrite.{stored_over}

-- ---- a hart as a number

-- RV64 with 16 or 64 entries, the finest grain, the widest addresses and Smepmp
abbrev pub is_usual : Profile → Bool
is_usual profile =
    (profile.entries == ENTRIES || profile.entries == MAX_ENTRIES)
    && profile.grain == 0 && profile.address_bits == MAX_ADDRESS_BITS && profile.has_smepmp && not profile.is_rv32

-- for a usual hart, the number of entries; for another, that in bits 7 to 0, the number of address bits in 15 to 8,
-- whether it has Smepmp in 16, whether it is RV32 in 17, G in 31 to 24, and bit 32 set
unfoldable pub hart_number : Profile → ℕ
hart_number profile =
    if is_usual profile then profile.entries
    else profile.entries + 2 ^ 8 * profile.address_bits + 2 ^ 16 * bit_of profile.has_smepmp
    + 2 ^ 17 * bit_of profile.is_rv32 + 2 ^ 24 * profile.grain + 2 ^ 32

abbrev pub spelled_hart : (number : ℕ) → Profile
spelled_hart number = record {
  is_rv32 = number / 2 ^ 17 % 2 == 1;
  entries = number % 2 ^ 8;
  grain = number / 2 ^ 24 % 2 ^ 8;
  address_bits = number / 2 ^ 8 % 2 ^ 8;
  has_smepmp = number / 2 ^ 16 % 2 == 1;
}

-- bit 32 is the highest bit set, bits 23 to 18 are 0, and such a hart exists
abbrev pub spells_hart : (number : ℕ) → Bool
spells_hart number =
    number / 2 ^ 32 == 1 && number / 2 ^ 18 % 2 ^ 6 == 0 && is_none (hart_fault (spelled_hart number))

-- 16 and 64 name the usual harts, and any other number the hart that it encodes, if any
unfoldable pub names_hart : (number : ℕ) → Bool
names_hart number = number == ENTRIES || number == MAX_ENTRIES || spells_hart number

-- the hart of a number: the one that it encodes; else the usual one, with 64 entries for 64 and else 16
unfoldable pub saved_hart : (number : ℕ) → Profile
saved_hart number =
    if spells_hart number then spelled_hart number
    else profile_with (if number == MAX_ENTRIES then MAX_ENTRIES else ENTRIES)

-- ---- the registers

-- each register of 64 entries as it is stored (3.7.1), and the hart
unfoldable pub saved_registers : RegisterFile → SavedRegisters
saved_registers file = record {
  addresses = map (λ i. (entry_at file.entries i).address) (range_with_len 0 MAX_ENTRIES);
  configurations = map (λ i. byte_of (entry_at file.entries i).configuration) (range_with_len 0 MAX_ENTRIES);
  mseccfg = register_value file Mseccfg;
  entries = hart_number file.profile;
}

abbrev pub hart_in : SavedRegisters → Profile
hart_in saved = saved_hart saved.entries

-- mseccfg, if the hart has it
abbrev pub fields_in : SavedRegisters → MseccfgFields
fields_in saved = if (hart_in saved).has_smepmp then mseccfg_fields saved.mseccfg else reset_mseccfg

-- entry i as writes to a reset entry with RLB set leave it: the address cut to the hart's bits, reserved combinations
-- only if MML is 1, and NA4 only if G is 0
abbrev pub restored_entry : SavedRegisters → ℕ → Entry
restored_entry saved i = record {
  configuration = stored_over (hart_in saved).grain (fields_in saved).mml true reset_entry.configuration
      (slice_index saved.configurations i);
  address = slice_index saved.addresses i % word_addresses (hart_in saved);
}

-- the first n entries
abbrev pub restored_entries : SavedRegisters → (n : ℕ) → List Entry
restored_entries saved n = map (restored_entry saved) (range_with_len 0 n)

-- the file that the numbers encode, whatever they are
unfoldable pub restored_file : SavedRegisters → RegisterFile
restored_file saved =
    file_of (hart_in saved) (fields_in saved) (restored_entries saved (hart_in saved).entries)

abbrev pub zero_registers : SavedRegisters
zero_registers = record {
  addresses = replicate MAX_ENTRIES 0;
  configurations = replicate MAX_ENTRIES 0;
  mseccfg = 0;
  entries = 0;
}

-- the numbers are what their file is saved as
abbrev pub IsCanonical : SavedRegisters → Type 0
IsCanonical saved = saved_registers (restored_file saved) ≡ saved
