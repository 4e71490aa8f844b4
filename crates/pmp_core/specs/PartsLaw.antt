-- The parts of an access (Volume II, 3.7.1.3).
use Rattle.std.specs.Prelude.{◌≡◌, ◌+◌, ◌≤◌, true}
use Rattle.pmp_core.specs.declared.access.Access.{Access}
use Rattle.pmp_core.specs.declared.decision.Decision.{Decision}
use Rattle.pmp_core.specs.Decision.{IsDecision}
use Rattle.pmp_core.specs.RegisterFile.{RegisterFile}

-- some bytes of the access, with the same mode and kind
pub record IsPart (part access : Access) : Type 0 where
  pub mode : part.mode ≡ access.mode
  pub kind : part.kind ≡ access.kind
  pub from : access.start ≤ part.start
  pub to : part.start + part.length ≤ access.start + access.length

-- each part of an allowed access is decided as the whole is, so no allowed access touches a closed byte
abbrev pub PartsLaw : Type 0
PartsLaw = (file : RegisterFile) (access part : Access) (decision : Decision) → IsPart part access
    → IsDecision file access decision → decision.allowed ≡ true → IsDecision file part decision
