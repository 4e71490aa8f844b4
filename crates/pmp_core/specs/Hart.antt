-- A hart's PMP parameters, fixed when it is made (Volume II, 3.7.1 and Smepmp).
use Rattle.std.specs.Prelude.{ℕ, ◌-◌, ◌+◌, ◌*◌, ◌%◌, ◌^◌, ◌≤◌, ◌==◌, Bool, true, false, ◌&&◌, ◌||◌, nat_le, nat_lt, Option}
use Rattle.std.specs.Prelude.{Some, None, if◌then◌else◌}
use Rattle.pmp_core.specs.declared.hart.HartFault.{HartFault}
use Rattle.pmp_core.specs.declared.hart.HartFault.TheVariants.{Entries, Grain, AddressBits}
use Rattle.pmp_core.specs.declared.hart.Profile.{Profile}
use Rattle.pmp_core.specs.declared.size.Size.{Size}
use Rattle.pmp_core.specs.declared.size.Size.TheVariants.{Sixteen, SixtyFour}

-- the number of physical address bits: pmpaddr holds bits 33 to 2 on RV32, and bits 55 to 2 on RV64 (3.7.1)
abbrev pub fewest_bits : (is_rv32 : Bool) → ℕ
fewest_bits is_rv32 = if is_rv32 then 32 else 34

abbrev pub most_bits : (is_rv32 : Bool) → ℕ
most_bits is_rv32 = if is_rv32 then 34 else 56

-- 0 to 64 entries (3.7.1), a grain of 4 to 4096 bytes (3.7.1.1), and as many address bits as XLEN permits
pub record IsProfile (profile : Profile) : Type 0 where
  pub few : profile.entries ≤ 64
  pub fine : profile.grain ≤ 10
  pub wide : fewest_bits profile.is_rv32 ≤ profile.address_bits
  pub narrow : profile.address_bits ≤ most_bits profile.is_rv32

-- why no such hart exists
abbrev pub hart_fault : Profile → Option HartFault
hart_fault profile =
    if nat_lt 64 profile.entries then Some Entries
    else (if nat_lt 10 profile.grain then Some Grain
    else (if nat_lt profile.address_bits (fewest_bits profile.is_rv32)
    || nat_lt (most_bits profile.is_rv32) profile.address_bits
    then Some AddressBits else None))

-- the number of word addresses: bits 1 and 0 are dropped (3.7.1)
abbrev pub word_addresses : Profile → ℕ
word_addresses profile = 2 ^ (profile.address_bits - 2)

-- how many configuration bytes pmpcfg q has: four on RV32; on RV64 eight, or none if q is odd (3.7.1)
abbrev pub bytes_in : Profile → (q : ℕ) → ℕ
bytes_in profile q = if profile.is_rv32 then 4 else (if q % 2 == 0 then 8 else 0)

-- pmpcfg q has the bytes of the entries from 4q on
abbrev pub holds_byte_of : Profile → (q i : ℕ) → Bool
holds_byte_of profile q i = nat_le (4 * q) i && nat_lt i (4 * q + bytes_in profile q)

-- 16 or 64 (3.7.1)
abbrev pub count_of : Size → ℕ
count_of Sixteen = 16
count_of SixtyFour = 64

-- n entries, RV64, the finest grain, the widest addresses, and Smepmp
abbrev pub profile_with : ℕ → Profile
profile_with n = record { is_rv32 = false; entries = n; grain = 0; address_bits = 56; has_smepmp = true }

abbrev pub profile_of : Size → Profile
profile_of size = profile_with (count_of size)

-- the least size with room for its entries
abbrev pub size_for : Profile → Size
size_for profile = if nat_lt 16 profile.entries then SixtyFour else Sixteen
