-- What a lock preserves (Volume II, 3.7.1.2 and Smepmp).
use Rattle.std.specs.Prelude.{◌≡◌, ◌↔◌, ℕ, true, List, fold}
use Rattle.std.specs.List.{list_all}
use Rattle.pmp_core.specs.declared.event.Event.{Event}
use Rattle.pmp_core.specs.RegisterFile.{RegisterFile, entry_at, is_frozen}
use Rattle.pmp_core.specs.Matching.{Matches}
use Rattle.pmp_core.specs.RegisterWrite.{step}
use Rattle.pmp_core.specs.Histories.{is_write}

-- entry i has the same configuration in both, matches the same bytes, and is still frozen
pub record StaysFrozen (before after : RegisterFile) (i : ℕ) : Type 0 where
  pub configuration : (entry_at after.entries i).configuration ≡ (entry_at before.entries i).configuration
  pub bytes : (byte : ℕ) → Matches after i byte ↔ Matches before i byte
  pub frozen : is_frozen after i ≡ true

-- a frozen entry stays as it is through every list of writes without a reset (3.7.1.2 and Smepmp)
abbrev pub LockLaw : Type 0
LockLaw = (file : RegisterFile) (i : ℕ) (events : List Event) → is_frozen file i ≡ true
    → list_all is_write events ≡ true → StaysFrozen file (fold step file events) i
