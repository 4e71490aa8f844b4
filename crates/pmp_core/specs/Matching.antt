-- Which bytes an entry matches (Volume II, 3.7.1.1).
use Rattle.std.specs.Prelude.{◌≡◌, ℕ, zero, suc, ◌+◌, ◌-◌, ◌*◌, ◌^◌, ◌<◌, ◌≤◌, List}
use Rattle.pmp_core.specs.declared.configuration.AddressMatching.{AddressMatching}
use Rattle.pmp_core.specs.declared.configuration.AddressMatching.TheVariants.{Off, Tor, Na4, Napot}
use Rattle.pmp_core.specs.Entry.{Entry}
use Rattle.pmp_core.specs.Grain.{napot_address, tor_address}
use Rattle.pmp_core.specs.RegisterFile.{RegisterFile, entry_at}

-- the address of the entry before, or 0 for entry 0 (3.7.1.1, top of range)
abbrev pub low_address : List Entry → ℕ → ℕ
low_address entries zero = 0
low_address entries (suc i) = (entry_at entries i).address

-- the address is y, a zero bit and k one bits; the region is the 2^(k+3) bytes from y * 2^(k+3) on (3.7.1.1, NAPOT)
pub record InNapot (address byte : ℕ) : Type 0 where
  pub k : ℕ
  pub y : ℕ
  pub spelled : address ≡ y * 2 ^ (k + 1) + 2 ^ k - 1
  pub from : y * 2 ^ (k + 3) ≤ byte
  pub to : byte < (y + 1) * 2 ^ (k + 3)

-- by G and the field A: OFF, TOR, NA4 or NAPOT (3.7.1.1)
abbrev pub MatchesBy : (grain : ℕ) → AddressMatching → (low address byte : ℕ) → Type 0
MatchesBy grain Off low address byte = ⊥
MatchesBy grain Tor low address byte = (4 * tor_address grain low ≤ byte) × (byte < 4 * tor_address grain address)
MatchesBy grain Na4 low address byte = (4 * address ≤ byte) × (byte < 4 * address + 4)
MatchesBy grain Napot low address byte = InNapot (napot_address grain address) byte

-- entry i matches the byte (3.7.1.1)
abbrev pub Matches : RegisterFile → ℕ → ℕ → Type 0
Matches file i byte =
    let entry = entry_at file.entries i in
    MatchesBy file.profile.grain entry.configuration.matching (low_address file.entries i) entry.address byte
