-- What writes alone can't undo (Volume II, 3.7.1.2 and Smepmp).
use Rattle.std.specs.Prelude.{◌≡◌, ◌⊎◌, ℕ, true, false, List, fold}
use Rattle.std.specs.List.{list_all}
use Rattle.pmp_core.specs.declared.access.Kind.{Kind}
use Rattle.pmp_core.specs.declared.access.Mode.{Mode}
use Rattle.pmp_core.specs.declared.csr.Csr.TheVariants.{Addr}
use Rattle.pmp_core.specs.declared.event.Event.{Event}
use Rattle.pmp_core.specs.RegisterFile.{RegisterFile, entry_at, is_frozen}
use Rattle.pmp_core.specs.RegisterValue.{register_value}
use Rattle.pmp_core.specs.RegisterWrite.{is_address_frozen, step}
use Rattle.pmp_core.specs.Rights.{allows, has_entries, default_rights}
use Rattle.pmp_core.specs.Histories.{is_write}

-- MML and MMWP stay set, and with MMWP and at least one entry, nothing is allowed if no entry matches (Smepmp)
pub record StaysSet (before after : RegisterFile) : Type 0 where
  pub mml : before.mseccfg.mml ≡ true → after.mseccfg.mml ≡ true
  pub mmwp : before.mseccfg.mmwp ≡ true → after.mseccfg.mmwp ≡ true
  pub closed : has_entries before ≡ true → before.mseccfg.mmwp ≡ true → (mode : Mode) (kind : Kind)
      → allows (default_rights after mode) kind ≡ false

-- they stay so through every list of writes without a reset
abbrev pub StickyLaw : Type 0
StickyLaw = (file : RegisterFile) (events : List Event) → list_all is_write events ≡ true
    → StaysSet file (fold step file events)

-- pmpaddr i keeps its address and stays frozen. It also reads the same if entry i itself is frozen, or the grain is 4
-- bytes: below a frozen TOR entry, on a coarser grain, what it reads depends on the field A of entry i
pub record KeepsAddress (before after : RegisterFile) (i : ℕ) : Type 0 where
  pub kept : (entry_at after.entries i).address ≡ (entry_at before.entries i).address
  pub frozen : is_address_frozen after i ≡ true
  pub read : (is_frozen before i ≡ true) ⊎ (before.profile.grain ≡ 0)
      → register_value after (Addr i) ≡ register_value before (Addr i)

-- this holds for a frozen pmpaddr, even one frozen by the TOR entry above it, through every list of writes (3.7.1.2)
abbrev pub FrozenAddressLaw : Type 0
FrozenAddressLaw = (file : RegisterFile) (i : ℕ) (events : List Event) → is_address_frozen file i ≡ true
    → list_all is_write events ≡ true → KeepsAddress file (fold step file events) i
