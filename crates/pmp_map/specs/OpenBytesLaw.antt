-- How owners decide their bytes, and what stays closed if held (Volume II, 3.7.1.2, 3.7.1.3 and Smepmp).
use Rattle.std.specs.Prelude.{◌≡◌, ◌<◌, ℕ, Bool, true, List, Option, fold}
use Rattle.std.specs.List.{list_all}
use Rattle.pmp_core.specs.declared.access.Kind.{Kind}
use Rattle.pmp_core.specs.declared.access.Mode.{Mode}
use Rattle.pmp_core.specs.declared.access.TheConstants.{ADDRESS_LIMIT}
use Rattle.pmp_core.specs.declared.event.Event.{Event}
use Rattle.pmp_core.specs.Decision.{IsOwner}
use Rattle.pmp_core.specs.Histories.{is_write}
use Rattle.pmp_core.specs.RegisterFile.{RegisterFile, IsLegal}
use Rattle.pmp_core.specs.RegisterWrite.{step}
use Rattle.pmp_core.specs.Rights.{allows}
use Rattle.pmp_map.specs.Answers.{owned_rights}
use Rattle.pmp_map.specs.OpenBytes.{IsAnswered, IsClosed, IsHeldByte, IsOpen}

-- a byte is open to what its owner's rule allows, or the default if it has no owner
abbrev pub OpenByteLaw : Type 0
OpenByteLaw = (file : RegisterFile) (byte : ℕ) (owner : Option ℕ) (mode : Mode) (kind : Kind) → byte < ADDRESS_LIMIT
    → IsOwner file byte owner → IsAnswered file (allows (owned_rights file owner mode) kind) mode kind byte

-- and to nothing else
abbrev pub OneAnswerLaw : Type 0
OneAnswerLaw = (file : RegisterFile) (byte : ℕ) (owner : Option ℕ) (allowed : Bool) (mode : Mode) (kind : Kind)
    → IsOwner file byte owner → IsAnswered file allowed mode kind byte
    → allowed ≡ allows (owned_rights file owner mode) kind

-- a held byte that is closed to a mode and a kind stays closed to them through every list of writes
abbrev pub HeldByteLaw : Type 0
HeldByteLaw = (file : RegisterFile) (byte : ℕ) (mode : Mode) (kind : Kind) (events : List Event) → IsLegal file
    → IsHeldByte file byte → IsClosed file mode kind byte → list_all is_write events ≡ true
    → ¬ (IsOpen (fold step file events) mode kind byte)
