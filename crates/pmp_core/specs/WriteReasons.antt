-- Why a register doesn't read what was written to it (Volume II, 3.7.1, 3.7.1.2 and Smepmp).
use Rattle.std.specs.Prelude.{◌≡◌, ℕ, ◌+◌, ◌-◌, ◌*◌, ◌/◌, ◌%◌, ◌<◌, ◌≤◌, ◌==◌, nat_lt, Bool, false, not, ◌&&◌, ◌||◌}
use Rattle.std.specs.Prelude.{List, [], ◌∷◌, length, map, slice_index}
use Rattle.std.specs.List.{range_with_len, list_any, filter}
use Rattle.std.specs.Int.{w64, to_le_bytes}
use Rattle.pmp_core.specs.declared.csr.Csr.{Csr}
use Rattle.pmp_core.specs.declared.csr.Csr.TheVariants.{Cfg, Addr, Mseccfg, Mseccfgh}
use Rattle.pmp_core.specs.declared.mseccfg.MseccfgFields.{MseccfgFields}
use Rattle.pmp_core.specs.declared.write_reasons.EntryReasons.{EntryReasons}
use Rattle.pmp_core.specs.declared.write_reasons.Reasons.{Reasons}
use Rattle.pmp_core.specs.declared.write_reasons.WriteReason.{WriteReason}
use Rattle.pmp_core.specs.declared.write_reasons.WriteReason.TheVariants.{Absent, Bits, Frozen, Tor, Reserved, Lockdown}
use Rattle.pmp_core.specs.declared.write_reasons.WriteReason.TheVariants.{Sticky, Bypass, Grain}
use Rattle.pmp_core.specs.declared.register_write.TheConstants.{ENTRIES_PER_CFG}
use Rattle.pmp_core.specs.Bytes.{byte}
use Rattle.pmp_core.specs.Configuration.{bit_of, configuration_of, byte_of, is_reserved}
use Rattle.pmp_core.specs.Grain.{is_na4, read_address}
use Rattle.pmp_core.specs.declared.hart.Profile.{Profile}
use Rattle.pmp_core.specs.Hart.{holds_byte_of, word_addresses}
use Rattle.pmp_core.specs.Mseccfg.{mseccfg_fields}
use Rattle.pmp_core.specs.RegisterFile.{RegisterFile, entry_at, is_frozen}
use Rattle.pmp_core.specs.RegisterWrite.{is_address_frozen, is_any_locked}
use Rattle.pmp_core.specs.Rights.{is_barred}

abbrev pub all_reasons : List WriteReason
all_reasons = Absent ∷ Bits ∷ Frozen ∷ Tor ∷ Reserved ∷ Lockdown ∷ Sticky ∷ Bypass ∷ Grain ∷ []

-- ---- one entry

-- the byte for entry i in a value of pmpcfg q (3.7.1)
abbrev pub byte_for : (q value i : ℕ) → ℕ
byte_for q value i = slice_index (to_le_bytes w64 value) (i - 4 * q)

-- the register holds entry i's byte or address, other than the value's
abbrev pub is_changed : RegisterFile → Csr → (value i : ℕ) → Bool
is_changed file (Cfg q) value i =
    holds_byte_of file.profile q i && not (byte_for q value i == byte_of (entry_at file.entries i).configuration)
is_changed file (Addr k) value i =
    let entry = entry_at file.entries i in
    k == i && not (value == read_address file.profile.grain entry.configuration.matching entry.address)
is_changed file _ value i = false

-- the write would change a frozen entry (3.7.1.2)
abbrev pub changes_frozen : RegisterFile → Csr → (value i : ℕ) → Bool
changes_frozen file csr value i = is_frozen file i && is_changed file csr value i

-- the write would change the low bound of a frozen TOR entry, and the entry before isn't frozen (3.7.1.2)
abbrev pub is_low_end : RegisterFile → Csr → (value i : ℕ) → Bool
is_low_end file (Addr k) value i =
    not (is_frozen file i) && is_address_frozen file i && is_changed file (Addr k) value i
is_low_end file _ value i = false

-- W without R would be stored in an entry that isn't frozen, and MML is 0 (3.7.1)
abbrev pub adds_reserved : RegisterFile → Csr → (value i : ℕ) → Bool
adds_reserved file (Cfg q) value i =
    holds_byte_of file.profile q i && not (is_frozen file i) && not file.mseccfg.mml
    && is_reserved (configuration_of (byte_for q value i))
adds_reserved file _ value i = false

-- a barred rule would be stored in an entry that isn't frozen, MML is 1 and RLB is 0 (Smepmp)
abbrev pub adds_barred : RegisterFile → Csr → (value i : ℕ) → Bool
adds_barred file (Cfg q) value i =
    let new = configuration_of (byte_for q value i) in
    holds_byte_of file.profile q i && not (is_frozen file i) && file.mseccfg.mml && not file.mseccfg.rlb
    && is_barred new.locked new.read new.write new.execute
adds_barred file _ value i = false

-- NA4 would be stored in an entry that isn't frozen, or an address wouldn't read as written by the entry's A, and the
-- grain is above four bytes (3.7.1.1)
abbrev pub is_too_fine : RegisterFile → Csr → (value i : ℕ) → Bool
is_too_fine file (Cfg q) value i =
    holds_byte_of file.profile q i && not (is_frozen file i) && nat_lt 0 file.profile.grain
    && is_na4 (configuration_of (byte_for q value i)).matching
is_too_fine file (Addr k) value i =
    k == i && not (read_address file.profile.grain (entry_at file.entries i).configuration.matching value == value)
is_too_fine file _ value i = false

-- whether this is a reason for entry i; only five of the reasons can be
abbrev pub is_entry_reason : WriteReason → RegisterFile → Csr → (value i : ℕ) → Bool
is_entry_reason Frozen file csr value i = changes_frozen file csr value i
is_entry_reason Tor file csr value i = is_low_end file csr value i
is_entry_reason Reserved file csr value i = adds_reserved file csr value i
is_entry_reason Lockdown file csr value i = adds_barred file csr value i
is_entry_reason Grain file csr value i = is_too_fine file csr value i
is_entry_reason _ file csr value i = false

-- some reason holds for entry i
abbrev pub has_reason : RegisterFile → Csr → (value i : ℕ) → Bool
has_reason file csr value i = list_any (λ reason. is_entry_reason reason file csr value i) all_reasons

-- the numbers of the entries that have some reason
abbrev pub entries_with_reasons : RegisterFile → Csr → (value : ℕ) → List ℕ
entries_with_reasons file csr value =
    filter (has_reason file csr value) (range_with_len 0 (length file.entries))

-- ---- the whole register

-- the value has a nonzero byte that isn't for one of the first n entries (3.7.1)
abbrev pub has_absent_byte : Profile → (n q value : ℕ) → Bool
has_absent_byte profile n q value =
    list_any (λ i. not (byte_for q value i == 0) && not (holds_byte_of profile q i && nat_lt i n))
    (range_with_len (4 * q) ENTRIES_PER_CFG)

-- the value is nonzero for an entry or a register that the hart lacks (3.7.1)
abbrev pub is_absent : RegisterFile → Csr → (value : ℕ) → Bool
is_absent file (Cfg q) value = has_absent_byte file.profile (length file.entries) q value
is_absent file (Addr i) value = not (value == 0) && not (nat_lt i (length file.entries))
is_absent file Mseccfg value = not (value == 0) && not file.profile.has_smepmp
is_absent file Mseccfgh value = not (value == 0) && not (file.profile.has_smepmp && file.profile.is_rv32)

-- bit 6 or 5 (3.7.1)
abbrev pub has_bit_6_or_5 : (byte : ℕ) → Bool
has_bit_6_or_5 byte = not (byte / 32 % 4 == 0)

-- bits 6 and 5 of a byte, address bits beyond the hart's, bits 63 to 3 of mseccfg, and all of mseccfgh, if the hart has
-- it (3.7.1 and Smepmp)
abbrev pub has_other_bits : Profile → Csr → (value : ℕ) → Bool
has_other_bits profile (Cfg q) value = list_any has_bit_6_or_5 (to_le_bytes w64 value)
has_other_bits profile (Addr i) value = not (value / word_addresses profile == 0)
has_other_bits profile Mseccfg value = profile.has_smepmp && not (value / 8 == 0)
has_other_bits profile Mseccfgh value = not (value == 0) && (profile.has_smepmp && profile.is_rv32)

-- the write would clear MML or MMWP (Smepmp)
abbrev pub clears_sticky : MseccfgFields → Csr → (value : ℕ) → Bool
clears_sticky mseccfg Mseccfg value =
    let new = mseccfg_fields value in
    (mseccfg.mml && not new.mml) || (mseccfg.mmwp && not new.mmwp)
clears_sticky mseccfg _ value = false

-- the write would set RLB while some entry is locked, on a hart with mseccfg (Smepmp)
abbrev pub sets_bypass : RegisterFile → Csr → (value : ℕ) → Bool
sets_bypass file Mseccfg value =
    file.profile.has_smepmp && (mseccfg_fields value).rlb && not file.mseccfg.rlb && is_any_locked file.entries
sets_bypass file _ value = false

-- a reason for some entry of the unit
abbrev pub is_some_entry_reason : WriteReason → RegisterFile → Csr → (value : ℕ) → Bool
is_some_entry_reason reason file csr value =
    list_any (is_entry_reason reason file csr value) (range_with_len 0 (length file.entries))

-- byte j of the word isn't zero exactly if there is an entry first + j and it has the reason; no entry beside has it
pub record Marks (word first : ℕ) (reason : WriteReason) (file : RegisterFile) (csr : Csr) (value : ℕ) : Type 0 where
  pub there : (j : ℕ) → j < 8 → not (byte word j == 0)
      ≡ (nat_lt (first + j) (length file.entries) && is_entry_reason reason file csr value (first + j))
  pub beside : (i : ℕ) → i < length file.entries → (first ≤ i → first + 8 ≤ i)
      → is_entry_reason reason file csr value i ≡ false

-- the words of the five
pub record AreMarked (found : EntryReasons) (file : RegisterFile) (csr : Csr) (value : ℕ) : Type 0 where
  pub frozen : Marks found.frozen found.first Frozen file csr value
  pub tor : Marks found.tor found.first Tor file csr value
  pub reserved : Marks found.reserved found.first Reserved file csr value
  pub lockdown : Marks found.lockdown found.first Lockdown file csr value
  pub grain : Marks found.grain found.first Grain file csr value

-- whether this is a reason why the register doesn't read the value
abbrev pub is_reason : WriteReason → RegisterFile → Csr → (value : ℕ) → Bool
is_reason Absent file csr value = is_absent file csr value
is_reason Bits file csr value = has_other_bits file.profile csr value
is_reason Sticky file csr value = clears_sticky file.mseccfg csr value
is_reason Bypass file csr value = sets_bypass file csr value
is_reason reason file csr value = is_some_entry_reason reason file csr value

-- the reasons why the register doesn't read the value, in this order
abbrev pub write_reasons : RegisterFile → Csr → (value : ℕ) → List WriteReason
write_reasons file csr value = filter (λ reason. is_reason reason file csr value) all_reasons

-- a bit for each test that holds, the lowest for the first
unfoldable pub bits_of : List Bool → ℕ
bits_of [] = 0
bits_of (b ∷ bs) = bit_of b + 2 * bits_of bs

-- the set of these reasons: a bit for each, in their order
abbrev pub reasons_of : RegisterFile → Csr → (value : ℕ) → Reasons
reasons_of file csr value = record { 0 = bits_of (map (λ reason. is_reason reason file csr value) all_reasons) }
