-- An entry matches the bytes of its range.
use Rattle.std.proofs.Common.{rules, ◌≡◌, ℕ, suc, ◌+◌, ◌*◌, ◌/◌, ◌^◌, ◌<◌, ◌≤◌, ◌↔◌, length, sym, ◌∙◌, arith}
use Rattle.std.proofs.Common.{add-one, refl}
use Rattle.std.specs.Int.{trailing_ones, w64}
use Rattle.std.proofs.lemmas.List.{get_or_past}
use Rattle.std.proofs.Math.Pow.{pow_pos}
use Rattle.pmp_core.specs.declared.configuration.AddressMatching.{AddressMatching}
use Rattle.pmp_core.specs.declared.register_write.TheConstants.{WORD_ADDRESSES}
use Rattle.pmp_core.specs.RegisterFile.{RegisterFile, reset_entry, HasAddresses}
use Rattle.pmp_core.specs.Matching.{InNapot, MatchesBy, Matches}
use Rattle.pmp_core.specs.Ranges.{IsInRange, napot_range, range_by, range_on, range_of}
use Rattle.pmp_core.proofs.Grains.{napot_below}
use Rattle.pmp_core.proofs.Places.{no_range}
use Rattle.pmp_core.proofs.Napot.{spelled_once, spelled_by_ones}

in_napot : (address byte : ℕ) → address < WORD_ADDRESSES → InNapot address byte → IsInRange (napot_range address) byte
in_napot address byte small h =
    let ones = trailing_ones w64 address in
    let one : address + 1 ≡ h.y * 2 ^ suc h.k + 2 ^ h.k = omega (arith, rw add-one at h.spelled, pow_pos h.k) in
    let same = spelled_once ones h.k (address / 2 ^ suc ones) h.y (sym (spelled_by_ones address small) ∙ one) in
    rw (add-one, same.1, same.0) (h.from, omega (arith, h.to))

from_napot : (address byte : ℕ) → address < WORD_ADDRESSES → IsInRange (napot_range address) byte → InNapot address byte
from_napot address byte small h =
    let k = trailing_ones w64 address in
    record {
      k = k;
      y = address / 2 ^ (k + 1);
      spelled = rw add-one (omega (arith, spelled_by_ones address small));
      from = h.0;
      to = omega (arith, h.1);
    }

matched_by : (grain : ℕ) (mode : AddressMatching) (low address byte : ℕ) → grain ≤ 10 → address < WORD_ADDRESSES
    → MatchesBy grain mode low address byte ↔ IsInRange (range_by grain mode low address) byte
matched_by grain mode low address byte fine small = search (rules, napot_below, in_napot, from_napot)

pub matches_range : (file : RegisterFile) (i byte : ℕ) → HasAddresses file
    → Matches file i byte ↔ IsInRange (range_of file i) byte
unfolding range_on
matches_range file i byte small = matched_by _ _ _ _ byte small.0 (small.1 i)

-- an entry that a file doesn't have matches nothing
pub range_past : (file : RegisterFile) (i : ℕ) → length file.entries ≤ i → range_of file i ≡ no_range
unfolding range_on
range_past file i past = rw (get_or_past file.entries i reset_entry past) refl
