-- A hart's grain, 2^(G+2) bytes (Volume II, 3.7.1.1).
use Rattle.std.specs.Prelude.{ℕ, ◌+◌, ◌-◌, ◌*◌, ◌/◌, ◌^◌, nat_lt, Bool, true, false, ◌&&◌, if◌then◌else◌}
use Rattle.pmp_core.specs.Configuration.{Configuration}
use Rattle.pmp_core.specs.declared.configuration.AddressMatching.{AddressMatching}
use Rattle.pmp_core.specs.declared.configuration.AddressMatching.TheVariants.{Off, Tor, Na4, Napot}

-- bits G-1 to 0 of an address read as zeros if A is OFF or TOR, and TOR matching ignores them
abbrev pub tor_address : (grain address : ℕ) → ℕ
tor_address grain address = address / 2 ^ grain * 2 ^ grain

-- bits G-2 to 0 read as ones if A is NAPOT
abbrev pub napot_address : (grain address : ℕ) → ℕ
napot_address grain address =
    let ones = 2 ^ (grain - 1) in
    address / ones * ones + (ones - 1)

-- what an entry's pmpaddr reads, by its field A; all that was written to it is kept
abbrev pub read_address : (grain : ℕ) → AddressMatching → (address : ℕ) → ℕ
read_address grain Off address = tor_address grain address
read_address grain Tor address = tor_address grain address
read_address grain Na4 address = address
read_address grain Napot address = napot_address grain address

abbrev pub is_na4 : AddressMatching → Bool
is_na4 Na4 = true
is_na4 _ = false

-- NA4 can't be chosen if G isn't 0: the entry is stored as OFF
abbrev pub selectable : (grain : ℕ) → Configuration → Configuration
selectable grain c = if nat_lt 0 grain && is_na4 c.matching then record c { matching = Off } else c
