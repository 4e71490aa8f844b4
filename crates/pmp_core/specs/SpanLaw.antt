-- An entry's span is unique (Volume II, 3.7.1.1).
use Rattle.std.specs.Prelude.{◌≡◌, ℕ, Option}
use Rattle.pmp_core.specs.declared.span.Span.{Span}
use Rattle.pmp_core.specs.RegisterFile.{RegisterFile}
use Rattle.pmp_core.specs.Span.{IsSpan}

-- an entry has only one span
abbrev pub OneSpanLaw : Type 0
OneSpanLaw = (file : RegisterFile) (i : ℕ) (one other : Option Span)
    → IsSpan file i one → IsSpan file i other → one ≡ other
