-- What a register write does (Volume II, 3.7.1, 3.7.1.2 and Smepmp).
use Rattle.std.specs.Prelude.{ℕ, suc, ◌-◌, ◌*◌, ◌%◌, ◌==◌, Bool, true, false, not, ◌&&◌, ◌||◌}
use Rattle.std.specs.Prelude.{if◌then◌else◌, List, length, map, slice_index, slice_set}
use Rattle.std.specs.List.{range_with_len, list_any}
use Rattle.std.specs.Int.{w64, to_le_bytes}
use Rattle.pmp_core.specs.declared.configuration.AddressMatching.{AddressMatching}
use Rattle.pmp_core.specs.declared.configuration.AddressMatching.TheVariants.{Tor}
use Rattle.pmp_core.specs.declared.csr.Csr.{Csr}
use Rattle.pmp_core.specs.declared.csr.Csr.TheVariants.{Cfg, Addr, Mseccfg, Mseccfgh}
use Rattle.pmp_core.specs.Entry.{Entry}
use Rattle.pmp_core.specs.declared.event.Event.{Event}
use Rattle.pmp_core.specs.declared.hart.Profile.{Profile}
use Rattle.pmp_core.specs.declared.mseccfg.MseccfgFields.{MseccfgFields}
use Rattle.pmp_core.specs.declared.event.Event.TheVariants.{Write, Reset}
use Rattle.pmp_core.specs.Configuration.{Configuration, configuration_of, is_reserved}
use Rattle.pmp_core.specs.Grain.{selectable}
use Rattle.pmp_core.specs.Hart.{holds_byte_of, word_addresses}
use Rattle.pmp_core.specs.Mseccfg.{mseccfg_written}
use Rattle.pmp_core.specs.RegisterFile.{RegisterFile, reset_file, entry_at, is_frozen}
use Rattle.pmp_core.specs.Rights.{is_barred}

-- a reserved combination is stored with R, W and X clear (3.7.1)
abbrev pub without_reserved : Configuration → Configuration
without_reserved c = if is_reserved c then record c { read = false; write = false; execute = false } else c

-- what is stored when a configuration is written over another, by MML and RLB (3.7.1 and Smepmp)
abbrev pub admitted : (mml rlb : Bool) → (old new : Configuration) → Configuration
admitted false _ old new = without_reserved new
admitted true false old new = if is_barred new.locked new.read new.write new.execute then old else new
admitted true true old new = new

-- the configuration after a byte is written over another, by G, MML and RLB (3.7.1.1, 3.7.1.2 and Smepmp)
abbrev pub stored_over : (grain : ℕ) → (mml rlb : Bool) → Configuration → ℕ → Configuration
stored_over grain mml rlb old byte =
    if old.locked && not rlb then old else selectable grain (admitted mml rlb old (configuration_of byte))

-- entry i's configuration after the byte is written to it
abbrev pub stored : RegisterFile → ℕ → ℕ → Configuration
stored file i =
    stored_over file.profile.grain file.mseccfg.mml file.mseccfg.rlb (entry_at file.entries i).configuration

-- the register holds the configuration or the address of entry i (3.7.1)
abbrev pub holds : Profile → Csr → (i : ℕ) → Bool
holds profile (Cfg q) i = holds_byte_of profile q i
holds profile (Addr k) i = i == k
holds profile _ i = false

-- entry i after pmpcfg q is written; the lowest byte is the lowest entry's
abbrev pub configured : RegisterFile → (q value i : ℕ) → Entry
configured file q value i =
    let entry = entry_at file.entries i in
    if holds_byte_of file.profile q i then record entry {
      configuration = stored file i (slice_index (to_le_bytes w64 value) (i - 4 * q));
    }
    else entry

abbrev pub is_tor : AddressMatching → Bool
is_tor Tor = true
is_tor _ = false

-- a frozen entry freezes its own pmpaddr, and if it is TOR, also the one before (3.7.1.2)
abbrev pub is_address_frozen : RegisterFile → ℕ → Bool
is_address_frozen file i =
    is_frozen file i
    || (is_frozen file (suc i) && is_tor (entry_at file.entries (suc i)).configuration.matching)

-- the entries after pmpaddr i is written (3.7.1)
abbrev pub address_written : RegisterFile → (i value : ℕ) → List Entry
address_written file i value =
    if is_address_frozen file i then file.entries
    else slice_set file.entries i (record (entry_at file.entries i) { address = value % word_addresses file.profile })

-- the entries after pmpcfg q is written (3.7.1)
abbrev pub configurations_written : RegisterFile → (q value : ℕ) → List Entry
configurations_written file q value = map (configured file q value) (range_with_len 0 (length file.entries))

-- some entry is locked, even if it is OFF (Smepmp)
abbrev pub is_any_locked : List Entry → Bool
is_any_locked entries = list_any (λ entry. entry.configuration.locked) entries

-- mseccfg after a write; unchanged on a hart without Smepmp
abbrev pub security_written : RegisterFile → (value : ℕ) → MseccfgFields
security_written file value =
    if file.profile.has_smepmp then mseccfg_written file.mseccfg (is_any_locked file.entries) value else file.mseccfg

-- the file after a register is written
abbrev pub written : RegisterFile → Csr → ℕ → RegisterFile
written file (Cfg q) value = record file { entries = configurations_written file q value }
written file (Addr i) value = record file { entries = address_written file i value }
written file Mseccfg value = record file { mseccfg = security_written file value }
written file Mseccfgh value = file

-- one event; a reset keeps the profile
abbrev pub step : RegisterFile → Event → RegisterFile
step file Reset = reset_file file.profile
step file (Write csr value) = written file csr value
