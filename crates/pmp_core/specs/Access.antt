-- Which numbers form an access.
use Rattle.std.specs.Prelude.{◌≡◌, ℕ, ◌+◌, ◌^◌, Option, Some, None, nat_lt, ◌==◌, ◌||◌, if◌then◌else◌}
use Rattle.pmp_core.specs.declared.access.Mode.{Mode}
use Rattle.pmp_core.specs.declared.access.Kind.{Kind}
use Rattle.pmp_core.specs.declared.access.Access.{Access}
use Rattle.pmp_core.specs.declared.access.AccessFault.{AccessFault}
use Rattle.pmp_core.specs.declared.access.AccessFault.TheVariants.{BadLength, PastEnd}

-- the length is 1 to 4,096 bytes, and the end is at or below 2^56
abbrev pub access_fault : (start length : ℕ) → Option AccessFault
access_fault start length =
    if length == 0 || nat_lt 4096 length then Some BadLength
    else (if nat_lt (2 ^ 56) (start + length) then Some PastEnd else None)

pub record IsAccess (access : Access) (mode : Mode) (kind : Kind) (start length : ℕ) : Type 0 where
  pub mode_is : access.mode ≡ mode
  pub kind_is : access.kind ≡ kind
  pub start_is : access.start ≡ start
  pub length_is : access.length ≡ length
