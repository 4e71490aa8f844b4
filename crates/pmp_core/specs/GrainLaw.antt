-- What the grain guarantees (Volume II, 3.7.1.1).
use Rattle.std.specs.Prelude.{◌≡◌, ◌↔◌, ℕ, ◌+◌, ◌/◌, ◌^◌}
use Rattle.pmp_core.specs.Matching.{Matches}
use Rattle.pmp_core.specs.RegisterFile.{RegisterFile, IsLegal}

-- two bytes of one block of 2^(G+2) bytes are matched by the same entries
abbrev pub GrainLaw : Type 0
GrainLaw = (file : RegisterFile) → IsLegal file → (one other : ℕ)
    → (let block = 2 ^ (file.profile.grain + 2) in one / block ≡ other / block)
    → (i : ℕ) → Matches file i one ↔ Matches file i other
