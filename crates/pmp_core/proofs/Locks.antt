-- A frozen entry stays as it is, write by write.
use borrow.Author.Tests.{tests}
use Rattle.std.proofs.Common.{rules, ◌≡◌, ◌≢◌, ◌↔◌, ℕ, suc, ◌<◌, true, false, List, [], ◌∷◌}
use Rattle.std.proofs.Common.{length, fold, refl}
use Rattle.std.specs.List.{list_all}
use Rattle.std.proofs.lemmas.Bool.{and_parts, and_right, false≢true, not-true}
use Rattle.std.proofs.lemmas.List.{get_or_past}
use Rattle.std.proofs.lemmas.List.Folds.{list_any_at}
use Rattle.pmp_core.specs.declared.configuration.AddressMatching.{AddressMatching}
use Rattle.pmp_core.specs.declared.csr.Csr.{Csr}
use Rattle.pmp_core.specs.declared.csr.Csr.TheVariants.{Cfg}
use Rattle.pmp_core.specs.Entry.{Entry}
use Rattle.pmp_core.specs.declared.event.Event.{Event}
use Rattle.pmp_core.specs.declared.event.Event.TheVariants.{Write, Reset}
use Rattle.pmp_core.specs.RegisterFile.{RegisterFile, entry_at, is_frozen}
use Rattle.pmp_core.specs.Matching.{low_address, MatchesBy, Matches}
use Rattle.pmp_core.specs.RegisterWrite.{configured, is_tor, address_written}
use Rattle.pmp_core.specs.RegisterWrite.{written, step}
use Rattle.pmp_core.specs.LockLaw.{LockLaw}
use Rattle.pmp_core.specs.Histories.{is_write}
use Rattle.pmp_core.proofs.Legal.{configured_place}

-- entry i is the same in both files, with the address below it where it is the top of a range; and bypass is off
pub record Held (before after : RegisterFile) (i : ℕ) : Type 0 where
  pub entry : entry_at after.entries i ≡ entry_at before.entries i
  pub low : is_tor (entry_at before.entries i).configuration.matching ≡ true
      → low_address after.entries i ≡ low_address before.entries i
  pub bypass : after.mseccfg.rlb ≡ false
  pub hart : after.profile ≡ before.profile

-- ---- one write

pub configured_address : (file : RegisterFile) (q value k : ℕ)
    → (configured file q value k).address ≡ (entry_at file.entries k).address
configured_address file q value k = search rules

-- a write to another address register
pub other_address : (file : RegisterFile) (j value k : ℕ) → k ≢ j
    → entry_at (address_written file j value) k ≡ entry_at file.entries k
other_address file j value k other = search rules

pub low_kept : (before after : List Entry) (i : ℕ)
    → ((k : ℕ) → suc k ≡ i → (entry_at after k).address ≡ (entry_at before k).address)
    → low_address after i ≡ low_address before i
low_kept before after i h = search rules

module _ (file : RegisterFile) (i : ℕ) (frozen : is_frozen file i ≡ true) where
  locked : (entry_at file.entries i).configuration.locked ≡ true
  locked = (and_parts _ _ frozen).0

  no_bypass : file.mseccfg.rlb ≡ false
  no_bypass = not-true _ (and_parts _ _ frozen).1

  inside : i < length file.entries
  inside = search (rules, tests, false≢true, get_or_past, locked)

  configured_frozen : (q value : ℕ) → configured file q value i ≡ entry_at file.entries i
  configured_frozen q value = search rules

  -- a write to a configuration register leaves every address
  low_configured : (k q value : ℕ) → k < length file.entries
      → (entry_at (written file (Cfg q) value).entries k).address ≡ (entry_at file.entries k).address
  low_configured k q value below = rw (configured_place file q value k below) (configured_address file q value k)

  after_address : (j value : ℕ) → Held file (record file { entries = address_written file j value }) i
  after_address j value = search rules

  after_write : (csr : Csr) (value : ℕ) → Held file (written file csr value) i
  after_write csr value =
      search (rules, tests, configured_place, inside, configured_frozen, low_kept, low_configured, no_bypass, after_address, and_right, list_any_at, locked)

-- ---- any writes

pub still_frozen : (before after : RegisterFile) (i : ℕ) → is_frozen before i ≡ true → Held before after i
    → is_frozen after i ≡ true
still_frozen before after i frozen held = rw (held.entry, held.bypass, locked before i frozen) refl

held_then : (a b c : RegisterFile) (i : ℕ) → Held a b i → Held b c i → Held a c i
held_then a b c i first second = search rules

pub held_on : (file : RegisterFile) (i : ℕ) (events : List Event) → is_frozen file i ≡ true
    → list_all is_write events ≡ true → Held file (fold step file events) i
held_on file i [] frozen writes = record { entry = refl; low = λ tor. refl; bypass = no_bypass file i frozen; hart = refl }
held_on file i (Reset ∷ events) frozen writes = absurd (false≢true writes)
held_on file i (Write csr value ∷ events) frozen writes =
    let first = after_write file i frozen csr value in
    let next = written file csr value in
    held_then file next (fold step next events) i first
    (held_on next i events (still_frozen file next i frozen first) writes)

-- ---- the bytes

pub same_bytes : (grain : ℕ) (mode : AddressMatching) (low other address byte : ℕ) → (is_tor mode ≡ true → low ≡ other)
    → MatchesBy grain mode low address byte → MatchesBy grain mode other address byte
same_bytes grain mode low other address byte same h = search rules

held_bytes : (before after : RegisterFile) (i byte : ℕ) → Held before after i
    → Matches after i byte ↔ Matches before i byte
held_bytes before after i byte held = search rules

pub lock_law : LockLaw
lock_law file i events frozen writes = search (rules, tests, held_on, held_bytes, still_frozen)
