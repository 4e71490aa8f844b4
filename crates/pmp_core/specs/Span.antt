-- The first and the last byte that an entry matches (Volume II, 3.7.1.1).
use Rattle.std.specs.Prelude.{◌↔◌, ℕ, ◌-◌, ◌<◌, ◌≤◌, min, nat_lt, Option, Some, None, if◌then◌else◌}
use Rattle.pmp_core.specs.declared.range.ByteRange.{ByteRange}
use Rattle.pmp_core.specs.declared.span.Span.{Span}
use Rattle.pmp_core.specs.declared.access.TheConstants.{ADDRESS_LIMIT}
use Rattle.pmp_core.specs.Matching.{Matches}
use Rattle.pmp_core.specs.RegisterFile.{RegisterFile}
use Rattle.pmp_core.specs.Ranges.{range_of}

abbrev pub IsInSpan : Span → ℕ → Type 0
IsInSpan span byte = (span.first ≤ byte) × (byte ≤ span.last)

-- addresses have 56 bits: of the bytes below 2^56, entry i matches none, or exactly those of the span
abbrev pub IsSpan : RegisterFile → ℕ → Option Span → Type 0
IsSpan file i None = (byte : ℕ) → byte < ADDRESS_LIMIT → ¬ (Matches file i byte)
IsSpan file i (Some span) =
    (span.first ≤ span.last) × (span.last < ADDRESS_LIMIT)
    × ((byte : ℕ) → byte < ADDRESS_LIMIT → Matches file i byte ↔ IsInSpan span byte)

-- ---- computed

-- the bytes of the range below 2^56
abbrev pub span_in : ByteRange → Option Span
span_in range =
    let end = min range.end ADDRESS_LIMIT in
    if nat_lt range.start end then Some (record { first = range.start; last = end - 1 }) else None

-- the span of entry i
unfoldable pub span_of : RegisterFile → ℕ → Option Span
span_of file i = span_in (range_of file i)
