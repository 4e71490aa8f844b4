-- A configuration byte (Volume II, 3.7.1): L in bit 7, zeros in 6 and 5, A in 4 and 3, X in 2, W in 1, R in 0.
use Rattle.std.specs.Prelude.{ℕ, ◌+◌, ◌*◌, ◌/◌, ◌%◌, Bool, true, false, not, ◌&&◌, ◌==◌, if◌then◌else◌}
use Rattle.pmp_core.specs.declared.configuration.AddressMatching.{AddressMatching}
use Rattle.pmp_core.specs.declared.configuration.AddressMatching.TheVariants.{Off, Tor, Na4, Napot}

-- L, A, X, W and R (3.7.1)
pub record Configuration : Type 0 where
  pub locked : Bool
  pub matching : AddressMatching
  pub execute : Bool
  pub write : Bool
  pub read : Bool

-- the field A (3.7.1.1)
abbrev pub matching_of : ℕ → AddressMatching
matching_of a = if a == 0 then Off else (if a == 1 then Tor else (if a == 2 then Na4 else Napot))

abbrev pub field_of : AddressMatching → ℕ
field_of Off = 0
field_of Tor = 1
field_of Na4 = 2
field_of Napot = 3

abbrev pub bit_of : Bool → ℕ
bit_of true = 1
bit_of false = 0

-- bits 6 and 5 are ignored (3.7.1)
abbrev pub configuration_of : ℕ → Configuration
configuration_of byte = record {
  locked = byte / 128 == 1;
  matching = matching_of (byte / 8 % 4);
  execute = byte / 4 % 2 == 1;
  write = byte / 2 % 2 == 1;
  read = byte % 2 == 1;
}

-- the byte of a configuration, with bits 6 and 5 zero (3.7.1)
abbrev pub byte_of : Configuration → ℕ
byte_of c = 128 * bit_of c.locked + 8 * field_of c.matching + 4 * bit_of c.execute + 2 * bit_of c.write + bit_of c.read

-- W without R, which is reserved if MML is 0 (3.7.1)
abbrev pub is_reserved : Configuration → Bool
is_reserved c = c.write && not c.read
