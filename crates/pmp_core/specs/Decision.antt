-- How an access is decided (Volume II, 3.7.1.3), byte by byte.
use Rattle.std.specs.Prelude.{◌≡◌, ℕ, ◌+◌, ◌<◌, ◌≤◌, Bool, false, Option, Some, None}
use Rattle.pmp_core.specs.declared.access.Access.{Access}
use Rattle.pmp_core.specs.declared.decision.Cause.{Cause}
use Rattle.pmp_core.specs.declared.decision.Cause.TheVariants.{Rule, Split, NoMatch}
use Rattle.pmp_core.specs.declared.decision.Decision.{Decision}
use Rattle.pmp_core.specs.RegisterFile.{RegisterFile}
use Rattle.pmp_core.specs.Matching.{Matches}
use Rattle.pmp_core.specs.Rights.{allows, rights, default_rights}

-- the least number with the property, or none if no number has it
abbrev pub IsLeast : (ℕ → Type 0) → Option ℕ → Type 0
IsLeast P None = (i : ℕ) → ¬ (P i)
IsLeast P (Some i) = P i × ((j : ℕ) → j < i → ¬ (P j))

abbrev pub IsByteOf : Access → ℕ → Type 0
IsByteOf access byte = (access.start ≤ byte) × (byte < access.start + access.length)

-- the lowest-numbered entry that matches the byte
abbrev pub IsOwner : RegisterFile → ℕ → Option ℕ → Type 0
IsOwner file byte = IsLeast (λ i. Matches file i byte)

-- entry i matches some byte of the access
abbrev pub Touches : RegisterFile → Access → ℕ → Type 0
Touches file access i = (byte : ℕ) × IsByteOf access byte × Matches file i byte

-- entry i matches every byte of the access
abbrev pub Covers : RegisterFile → Access → ℕ → Type 0
Covers file access i = (byte : ℕ) → IsByteOf access byte → Matches file i byte

-- the lowest-numbered entry that matches any byte of the access (3.7.1.3)
abbrev pub IsDecider : RegisterFile → Access → Option ℕ → Type 0
IsDecider file access = IsLeast (Touches file access)

-- no decider: the default; a decider that misses a byte: refused; else the decider's rule (3.7.1.3)
abbrev pub IsDecisionBy : RegisterFile → Access → Bool → Cause → Type 0
IsDecisionBy file access allowed NoMatch =
    IsDecider file access None × (allowed ≡ allows (default_rights file access.mode) access.kind)
IsDecisionBy file access allowed (Split i) =
    IsDecider file access (Some i) × ¬ (Covers file access i) × (allowed ≡ false)
IsDecisionBy file access allowed (Rule i) =
    IsDecider file access (Some i) × Covers file access i
    × (allowed ≡ allows (rights file i access.mode) access.kind)

-- the manual's decision (3.7.1.3)
abbrev pub IsDecision : RegisterFile → Access → Decision → Type 0
IsDecision file access decision = IsDecisionBy file access decision.allowed decision.cause
