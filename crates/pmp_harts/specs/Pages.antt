-- What a hart's TLB keeps.
use Rattle.std.specs.Prelude.{◌≡◌, ℕ, ◌+◌, ◌/◌, ◌%◌, ◌≤◌, ◌==◌, Bool}
use Rattle.pmp_core.specs.declared.access.Access.{Access}
use Rattle.pmp_core.specs.declared.access.Mode.{Mode}
use Rattle.pmp_core.specs.declared.perms.Perms.{Perms}
use Rattle.pmp_core.specs.Perms.{right_of}
use Rattle.pmp_core.specs.Ranges.{decision_of}
use Rattle.pmp_share.specs.declared.knowledge.Known.{Known}
use Rattle.pmp_share.specs.Known.{file_of}

-- whether the registers that a checker knows allow the access
abbrev pub allows_at : Known → Access → Bool
allows_at known access = (decision_of (file_of known) access).allowed

-- an access of the mode, with all its bytes in the range
abbrev pub IsInside : Access → Mode → (start length : ℕ) → Type 0
IsInside access mode start length =
    (access.mode ≡ mode) × (start ≤ access.start) × (access.start + access.length ≤ start + length)

-- an access of the mode in the range is allowed if the rights have the bit of its kind
abbrev pub HasRights : Known → Mode → (start length : ℕ) → Perms → Type 0
HasRights known mode start length rights =
    (access : Access) → access.mode ≡ mode → start ≤ access.start → access.start + access.length ≤ start + length
    → allows_at known access ≡ (rights.0 / (right_of access.kind).0 % 2 == 1)
