-- What a mode may do in a whole range of bytes, as a number.
use Rattle.std.specs.Prelude.{◌≡◌, ℕ, ◌+◌, ◌<◌, ◌≤◌, Option, Some, None}
use Rattle.pmp_core.specs.declared.access.Mode.{Mode}
use Rattle.pmp_core.specs.declared.access.TheConstants.{ADDRESS_LIMIT}
use Rattle.pmp_core.specs.declared.perms.Perms.{Perms}
use Rattle.pmp_core.specs.RegisterFile.{RegisterFile}
use Rattle.pmp_map.specs.RangeRights.{AreRangeRights}
use Rattle.pmp_map.specs.Request.{mode_number}

-- the number is the mode's, and the range has a byte and ends at or below 2^56
pub record IsRangeOf (mode : Mode) (number start length : ℕ) : Type 0 where
  pub mode_is : mode_number mode ≡ number
  pub full : 0 < length
  pub inside : start + length ≤ ADDRESS_LIMIT

-- the answer if the numbers name no range: it has no bit of a right
abbrev pub no_range : ℕ
no_range = 16

-- R is 1, W is 2, X is 4; if no one owner has all bytes, a number without the bit of a right
abbrev pub rights_number : Option Perms → ℕ
rights_number (Some perms) = perms.0
rights_number None = 8

-- the number gives what the mode may do in the whole range
abbrev pub IsRightsNumber : RegisterFile → Mode → (start length number : ℕ) → Type 0
IsRightsNumber file mode start length number =
    (rights : Option Perms) × AreRangeRights file mode start length rights × (number ≡ rights_number rights)
