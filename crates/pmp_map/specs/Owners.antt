-- Owners by the entries' ranges.
use Rattle.std.specs.Prelude.{ℕ, Option}
use Rattle.pmp_core.specs.Decision.{IsLeast}
use Rattle.pmp_core.specs.Ranges.{IsInRange, range_of}
use Rattle.pmp_core.specs.RegisterFile.{RegisterFile}

-- the lowest-numbered entry whose range has the byte
abbrev pub IsOwnerIn : RegisterFile → (byte : ℕ) → Option ℕ → Type 0
IsOwnerIn file byte = IsLeast (λ i. IsInRange (range_of file i) byte)
