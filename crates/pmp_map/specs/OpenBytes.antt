-- Which bytes are open to a mode and a kind of access, and which are held (Volume II, 3.7.1.2 and 3.7.1.3).
use Rattle.std.specs.Prelude.{◌≡◌, ℕ, Bool, true, false, Option, Some, None, length}
use Rattle.std.specs.List.{list_all, range_with_len}
use Rattle.pmp_core.specs.declared.access.Access.{Access}
use Rattle.pmp_core.specs.declared.access.Kind.{Kind}
use Rattle.pmp_core.specs.declared.access.Mode.{Mode}
use Rattle.pmp_core.specs.declared.decision.Decision.{Decision}
use Rattle.pmp_core.specs.Access.{IsAccess}
use Rattle.pmp_core.specs.Decision.{IsDecision, IsOwner}
use Rattle.pmp_core.specs.RegisterFile.{RegisterFile, is_frozen, is_held}

-- an access to this one byte is allowed, or refused
abbrev pub IsAnswered : RegisterFile → (allowed : Bool) → Mode → Kind → (byte : ℕ) → Type 0
IsAnswered file allowed mode kind byte =
    (access : Access) × (decision : Decision) × IsAccess access mode kind byte 1 × IsDecision file access decision
    × (decision.allowed ≡ allowed)

abbrev pub IsOpen : RegisterFile → Mode → Kind → (byte : ℕ) → Type 0
IsOpen file = IsAnswered file true

abbrev pub IsClosed : RegisterFile → Mode → Kind → (byte : ℕ) → Type 0
IsClosed file = IsAnswered file false

-- the owner and all entries before it are frozen; if there is no owner, all entries are
abbrev pub holds : RegisterFile → (owner : Option ℕ) → Bool
holds file (Some i) = is_held file i
holds file None = list_all (is_frozen file) (range_with_len 0 (length file.entries))

-- the byte's owner holds
abbrev pub IsHeldByte : RegisterFile → (byte : ℕ) → Type 0
IsHeldByte file byte = (owner : Option ℕ) × IsOwner file byte owner × (holds file owner ≡ true)
