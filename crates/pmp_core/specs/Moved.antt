-- Which bytes a register change may affect (Volume II, 3.7.1.1 and 3.7.1.3).
use Rattle.std.specs.Prelude.{◌≡◌, ◌↔◌, ℕ, zero, suc, ◌+◌, ◌-◌, ◌*◌, ◌<◌, ◌==◌, ◌⊎◌, min, max, Bool, ◌&&◌}
use Rattle.std.specs.Prelude.{if◌then◌else◌, Option, Some, None}
use Rattle.pmp_core.specs.declared.access.Access.{Access}
use Rattle.pmp_core.specs.declared.access.TheConstants.{ADDRESS_LIMIT}
use Rattle.pmp_core.specs.declared.csr.Csr.{Csr}
use Rattle.pmp_core.specs.declared.csr.Csr.TheVariants.{Cfg, Addr, Mseccfg, Mseccfgh}
use Rattle.pmp_core.specs.declared.decision.Decision.{Decision}
use Rattle.pmp_core.specs.declared.range.ByteRange.{ByteRange}
use Rattle.pmp_core.specs.declared.span.Span.{Span}
use Rattle.pmp_core.specs.Configuration.{byte_of}
use Rattle.pmp_core.specs.Decision.{IsByteOf, IsDecision}
use Rattle.pmp_core.specs.Hart.{bytes_in}
use Rattle.pmp_core.specs.Matching.{Matches}
use Rattle.pmp_core.specs.Ranges.{range_of}
use Rattle.pmp_core.specs.RegisterFile.{RegisterFile, entry_at}
use Rattle.pmp_core.specs.RegisterValue.{register_value}
use Rattle.pmp_core.specs.Span.{IsInSpan, span_in}

-- the byte is in the moved span, if there is one
abbrev pub IsMoved : (moved : Option Span) → (byte : ℕ) → Type 0
IsMoved None byte = ⊥
IsMoved (Some span) byte = IsInSpan span byte

-- an access without a moved byte is decided the same in both files
abbrev pub AreAlikeBeside : (one other : RegisterFile) → (moved : Option Span) → Type 0
AreAlikeBeside one other moved = (access : Access) → ((byte : ℕ) → IsByteOf access byte → ¬ (IsMoved moved byte))
    → (decision : Decision) → IsDecision one access decision ↔ IsDecision other access decision

-- ---- by entries

-- entry i has the same configuration and bytes in both files
abbrev pub IsSameEntry : (one other : RegisterFile) → ℕ → Type 0
IsSameEntry one other i =
    ((entry_at other.entries i).configuration ≡ (entry_at one.entries i).configuration)
    × ((byte : ℕ) → Matches other i byte ↔ Matches one i byte)

-- entry i is the same in both files, or every byte that it matches in either moved
abbrev pub IsMovedWithin : (one other : RegisterFile) → (moved : Option Span) → ℕ → Type 0
IsMovedWithin one other moved i = IsSameEntry one other i
    ⊎ ((byte : ℕ) → byte < ADDRESS_LIMIT → ¬ (IsMoved moved byte) → ¬ (Matches one i byte) × ¬ (Matches other i byte))

-- the least span with both
abbrev pub joined : (one other : Option Span) → Option Span
joined None other = other
joined (Some one) None = Some one
joined (Some one) (Some other) = Some (record { first = min one.first other.first; last = max one.last other.last })

-- ---- by a write: `laws::law_moved` proves that decisions on all other accesses stay the same

abbrev pub is_same_range : (one other : ByteRange) → Bool
is_same_range one other = one.start == other.start && one.end == other.end

-- both ranges, unless they are the same
abbrev pub moved_between : (one other : ByteRange) → Option Span
moved_between one other = if is_same_range other one then None else joined (span_in other) (span_in one)

abbrev pub is_same_configuration : (one other : RegisterFile) → ℕ → Bool
is_same_configuration one other i =
    byte_of (entry_at other.entries i).configuration == byte_of (entry_at one.entries i).configuration

-- what entry i matches in either file, unless its configuration and range are the same
unfoldable pub moved_at : (one other : RegisterFile) → ℕ → Option Span
moved_at one other i =
    let was = range_of one i in
    let is = range_of other i in
    if is_same_configuration one other i then moved_between was is else joined (span_in is) (span_in was)

-- what the changed entries match, of `count` entries from `first` on
unfoldable pub moved_among : (one other : RegisterFile) → (first count : ℕ) → Option Span
moved_among one other first zero = None
moved_among one other first (suc count) =
    joined (moved_among one other first count) (moved_at one other (first + count))

-- by a write: pmpcfg's entries; pmpaddr's entry and the next, whose low bound it is (3.7.1.1); all if mseccfg changes
unfoldable pub moved_by : (one other : RegisterFile) → Csr → Option Span
moved_by one other (Cfg q) = moved_among one other (4 * q) (bytes_in one.profile q)
moved_by one other (Addr i) = moved_among one other i 2
moved_by one other Mseccfg =
    if register_value other Mseccfg == register_value one Mseccfg then None
    else Some (record { first = 0; last = ADDRESS_LIMIT - 1 })
moved_by one other Mseccfgh = None
