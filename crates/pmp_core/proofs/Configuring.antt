-- Whose bytes a configuration register holds, and what it makes of them when it is written.
use borrow.Author.Tests.{tests}
use Rattle.std.proofs.Common.{rules, ◌≡◌, ℕ, ◌+◌, ◌-◌, ◌*◌, ◌<◌, ◌≤◌, Bool, true, false, cond, ◌&&◌, nat_le, nat_lt}
use Rattle.std.proofs.Common.{slice_index, length, arith, refl}
use Rattle.std.specs.Int.{w64, to_le_bytes}
use Rattle.std.proofs.lemmas.Bool.{and_parts, leb-true, ltb-true}
use Rattle.std.proofs.lemmas.Bool.Decides.{nat_tests}
use Rattle.std.proofs.lemmas.List.{get_or_past}
use Rattle.pmp_core.specs.declared.hart.Profile.{Profile}
use Rattle.pmp_core.specs.Hart.{bytes_in, holds_byte_of}
use Rattle.pmp_core.specs.RegisterFile.{RegisterFile, entry_at}
use Rattle.pmp_core.specs.RegisterValue.{byte_in}
use Rattle.pmp_core.specs.RegisterWrite.{configured, stored_over}
use Rattle.pmp_core.proofs.StoredBytes.{byte_plain}

-- ---- whose bytes it holds

module _ (first count i : ℕ) where
  abbrev is_among : Bool
  is_among = nat_le first i && nat_lt i (first + count)

  among : first ≤ i → i < first + count → is_among ≡ true
  among low high = grind (arith, nat_tests)

  below : i < first → is_among ≡ false
  below low = grind (arith, nat_tests)

  above : first + count ≤ i → is_among ≡ false
  above high = grind (arith, nat_tests)

module _ (profile : Profile) (q : ℕ) where
  pub most_bytes : bytes_in profile q ≤ 8
  most_bytes = search rules

  pub held : (i : ℕ) → 4 * q ≤ i → i < 4 * q + bytes_in profile q → holds_byte_of profile q i ≡ true
  held i low high = among (4 * q) (bytes_in profile q) i low high

  pub low_of : (i : ℕ) → holds_byte_of profile q i ≡ true → 4 * q ≤ i
  low_of i h = leb-true (4 * q) i (and_parts _ _ h).0

  pub high_of : (i : ℕ) → holds_byte_of profile q i ≡ true → i < 4 * q + bytes_in profile q
  high_of i h = ltb-true i (4 * q + bytes_in profile q) (and_parts (nat_le (4 * q) i) _ h).1

  pub none_below : (i : ℕ) → i < 4 * q → holds_byte_of profile q i ≡ false
  none_below i low = below (4 * q) (bytes_in profile q) i low

  pub none_above : (i : ℕ) → 4 * q + bytes_in profile q ≤ i → holds_byte_of profile q i ≡ false
  none_above i high = above (4 * q) (bytes_in profile q) i high

-- ---- what it reads

pub byte_within : (file : RegisterFile) (q i : ℕ) → byte_in file q i < 256
byte_within file q i = search (rules, tests, byte_plain)

zero_either : (holds : Bool) (byte : ℕ) → byte ≡ 0 → 0 ≡ cond holds byte 0
zero_either holds byte is = search rules

pub byte_past : (file : RegisterFile) (q i : ℕ) → length file.entries ≤ i → 0 ≡ byte_in file q i
byte_past file q i past = search (rules, tests, zero_either, get_or_past)

-- ---- what is written

module _ (file : RegisterFile) (q value k : ℕ) where
  pub kept : holds_byte_of file.profile q k ≡ false → configured file q value k ≡ entry_at file.entries k
  kept h = rw h refl

  pub kept_below : k < 4 * q → configured file q value k ≡ entry_at file.entries k
  kept_below h = kept (none_below file.profile q k h)

  pub kept_above : 4 * q + bytes_in file.profile q ≤ k → configured file q value k ≡ entry_at file.entries k
  kept_above h = kept (none_above file.profile q k h)

module _ (file : RegisterFile) (q value : ℕ) where
  -- the byte at this place is that of entry 4q + place
  pub configured_at : (place : ℕ) → place < bytes_in file.profile q → configured file q value (4 * q + place)
      ≡ (let entry = entry_at file.entries (4 * q + place) in
      record entry {
        configuration =
            stored_over file.profile.grain file.mseccfg.mml file.mseccfg.rlb entry.configuration
            (slice_index (to_le_bytes w64 value) place);
      })
  configured_at place near =
      let holds : holds_byte_of file.profile q (4 * q + place) ≡ true =
      held file.profile q (4 * q + place) (omega arith) (omega arith) in
      let at : 4 * q + place - 4 * q ≡ place = omega arith in
      rw (holds, at) refl
