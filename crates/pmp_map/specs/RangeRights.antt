-- What a mode may do in a whole range of bytes, such as a page.
use Rattle.std.specs.Prelude.{◌≡◌, ℕ, ◌+◌, ◌/◌, ◌%◌, ◌<◌, ◌≤◌, ◌==◌, Option, Some, None}
use Rattle.pmp_core.specs.declared.access.Access.{Access}
use Rattle.pmp_core.specs.declared.access.Mode.{Mode}
use Rattle.pmp_core.specs.declared.perms.Perms.{Perms}
use Rattle.pmp_core.specs.RegisterFile.{RegisterFile}
use Rattle.pmp_core.specs.Decision.{IsOwner}
use Rattle.pmp_core.specs.Perms.{right_of}
use Rattle.pmp_core.specs.Ranges.{decision_of}
use Rattle.pmp_core.specs.Rights.{perms_of}
use Rattle.pmp_map.specs.Answers.{owned_rights}

-- all bytes of the range have this owner
abbrev pub IsOwnedBy : RegisterFile → (start length : ℕ) → Option ℕ → Type 0
IsOwnedBy file start length owner = (byte : ℕ) → start ≤ byte → byte < start + length → IsOwner file byte owner

-- the rights are what the mode may do in the whole range; none if it is mixed
pub record AreRangeRights (file : RegisterFile) (mode : Mode) (start length : ℕ) (rights : Option Perms) : Type 0 where
  -- if all bytes have one owner, or all have none
  pub owned : (owner : Option ℕ) → IsOwnedBy file start length owner
      → rights ≡ Some (perms_of (owned_rights file owner mode))
  -- if not all bytes have the same owner
  pub mixed : ((owner : Option ℕ) → ¬ (IsOwnedBy file start length owner)) → rights ≡ None
  -- if it isn't mixed, every access of the mode in the range is allowed if the rights have the bit of its kind
  pub accesses : (perms : Perms) → rights ≡ Some perms → (access : Access) → access.mode ≡ mode → start ≤ access.start
      → access.start + access.length ≤ start + length
      → (decision_of file access).allowed ≡ (perms.0 / (right_of access.kind).0 % 2 == 1)
