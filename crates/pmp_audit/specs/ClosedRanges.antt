-- The ranges of bytes that are closed to a mode and a kind of access (Volume II, 3.7.1.3).
use Rattle.std.specs.Prelude.{ℕ, ◌+◌, ◌<◌, ◌≤◌, List, [], ◌∷◌, Option, Some, None}
use Rattle.pmp_core.specs.declared.access.Kind.{Kind}
use Rattle.pmp_core.specs.declared.access.Mode.{Mode}
use Rattle.pmp_core.specs.declared.access.TheConstants.{ADDRESS_LIMIT}
use Rattle.pmp_core.specs.declared.span.Span.{Span}
use Rattle.pmp_core.specs.RegisterFile.{RegisterFile}
use Rattle.pmp_core.specs.Span.{IsInSpan}
use Rattle.pmp_map.specs.OpenBytes.{IsClosed, IsOpen}

-- the longest range from its first byte on that has only closed bytes, whoever owns them
pub record IsClosedRange (file : RegisterFile) (mode : Mode) (kind : Kind) (range : Span) : Type 0 where
  pub proper : range.first ≤ range.last
  pub inside : range.last < ADDRESS_LIMIT
  pub closed : (byte : ℕ) → IsInSpan range byte → IsClosed file mode kind byte
  pub longest : range.last + 1 < ADDRESS_LIMIT → IsOpen file mode kind (range.last + 1)

-- the bytes from `from` up to, but not including, `end` are open
abbrev pub AreOpen : RegisterFile → Mode → Kind → (from end : ℕ) → Type 0
AreOpen file mode kind from end = (byte : ℕ) → from ≤ byte → byte < end → IsOpen file mode kind byte

-- the first such range from `from` on, or none if all bytes from there on are open
abbrev pub IsFirstClosed : RegisterFile → Mode → Kind → (from : ℕ) → Option Span → Type 0
IsFirstClosed file mode kind from None = AreOpen file mode kind from ADDRESS_LIMIT
IsFirstClosed file mode kind from (Some range) =
    (from ≤ range.first) × AreOpen file mode kind from range.first × IsClosedRange file mode kind range

-- all such ranges from `from` on, by address
abbrev pub AreClosedFrom : RegisterFile → Mode → Kind → (from : ℕ) → List Span → Type 0
AreClosedFrom file mode kind from [] = IsFirstClosed file mode kind from None
AreClosedFrom file mode kind from (range ∷ rest) =
    IsFirstClosed file mode kind from (Some range) × AreClosedFrom file mode kind (range.last + 1) rest

-- all of them
abbrev pub AreClosedRanges : RegisterFile → Mode → Kind → List Span → Type 0
AreClosedRanges file mode kind = AreClosedFrom file mode kind 0
