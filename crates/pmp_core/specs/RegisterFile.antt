-- The register file (Volume II, 3.7.1 and Smepmp).
use Rattle.std.specs.Prelude.{◌≡◌, ℕ, ◌+◌, ◌<◌, ◌≤◌, Bool, false, not, ◌&&◌, List, replicate}
use Rattle.std.specs.Prelude.{length}
use Rattle.std.specs.List.{list_all, range_with_len, slice_index_or}
use Rattle.pmp_core.specs.declared.configuration.AddressMatching.TheVariants.{Off}
use Rattle.pmp_core.specs.Entry.{Entry}
use Rattle.pmp_core.specs.declared.mseccfg.MseccfgFields.{MseccfgFields}
use Rattle.pmp_core.specs.declared.hart.TheConstants.{MAX_GRAIN}
use Rattle.pmp_core.specs.declared.register_write.TheConstants.{WORD_ADDRESSES}
use Rattle.pmp_core.specs.Configuration.{is_reserved}
use Rattle.pmp_core.specs.Grain.{selectable}
use Rattle.pmp_core.specs.declared.hart.Profile.{Profile}
use Rattle.pmp_core.specs.Hart.{IsProfile, word_addresses}

-- the hart, its entries (3.7.1), and MML, MMWP and RLB of mseccfg (Smepmp)
pub record RegisterFile : Type 0 where
  pub profile : Profile
  pub entries : List Entry
  pub mseccfg : MseccfgFields

-- the file of these parts, stored separately
abbrev pub file_of : Profile → MseccfgFields → List Entry → RegisterFile
file_of profile mseccfg entries = record { profile = profile; entries = entries; mseccfg = mseccfg }

-- all zero (3.7.1, reset)
abbrev pub reset_entry : Entry
reset_entry = record {
  configuration = record { locked = false; matching = Off; execute = false; write = false; read = false };
  address = 0;
}

abbrev pub reset_mseccfg : MseccfgFields
reset_mseccfg = record { mml = false; mmwp = false; rlb = false }

abbrev pub reset_file : Profile → RegisterFile
reset_file profile = file_of profile reset_mseccfg (replicate profile.entries reset_entry)

-- entry i, or past the last, one that matches nothing and isn't locked
abbrev pub entry_at : List Entry → ℕ → Entry
entry_at entries i = slice_index_or entries i reset_entry

-- L is set, and RLB is clear (3.7.1.2 and Smepmp)
abbrev pub is_frozen : RegisterFile → ℕ → Bool
is_frozen file i = (entry_at file.entries i).configuration.locked && not file.mseccfg.rlb

-- entries 0 to i are all frozen
abbrev pub is_held : RegisterFile → ℕ → Bool
is_held file i = list_all (is_frozen file) (range_with_len 0 (i + 1))

-- every address has at most 54 bits (3.7.1)
abbrev pub AreWords : List Entry → Type 0
AreWords entries = (i : ℕ) → (entry_at entries i).address < WORD_ADDRESSES

-- and the grain is at most 4096 bytes (3.7.1.1)
abbrev pub HasAddresses : RegisterFile → Type 0
HasAddresses file = (file.profile.grain ≤ MAX_GRAIN) × AreWords file.entries

-- what every write preserves: the hart's number of entries, addresses of at most its bits, no reserved combination if
-- MML is 0, NA4 only if G is 0, and mseccfg all zero without Smepmp
pub record IsLegal (file : RegisterFile) : Type 0 where
  pub profile : IsProfile file.profile
  pub count : length file.entries ≡ file.profile.entries
  pub words : (i : ℕ) → (entry_at file.entries i).address < word_addresses file.profile
  pub unreserved : file.mseccfg.mml ≡ false → (i : ℕ) → is_reserved (entry_at file.entries i).configuration ≡ false
  pub chosen : (i : ℕ) → let c = (entry_at file.entries i).configuration in selectable file.profile.grain c ≡ c
  pub plain : file.profile.has_smepmp ≡ false → file.mseccfg ≡ reset_mseccfg
