-- An answer number encodes one decision.
use Rattle.std.specs.Prelude.{◌≡◌, ℕ, ◌↔◌, ◌<◌, ◌/◌, ◌%◌, true}
use Rattle.pmp_core.specs.declared.access.Access.{Access}
use Rattle.pmp_core.specs.declared.access.Kind.{Kind}
use Rattle.pmp_core.specs.declared.decision.Cause.{Cause}
use Rattle.pmp_core.specs.declared.decision.Cause.TheVariants.{Rule, Split, NoMatch}
use Rattle.pmp_core.specs.declared.decision.Decision.{Decision}
use Rattle.pmp_core.specs.FaultCode.{access_fault_code}
use Rattle.pmp_map.specs.Request.{kind_number}
use Rattle.pmp_map.specs.Answer.{answer_number, cause_number, fault_number, no_access}

-- the entry's number fits in a byte, as every entry's does
abbrev pub IsByteCause : Cause → Type 0
IsByteCause (Rule i) = i < 256
IsByteCause (Split i) = i < 256
IsByteCause NoMatch = Unit {0}

-- no decision has a number of no access
abbrev pub NoAccessLaw : Type 0
NoAccessLaw = (access : Access) (decision : Decision) (kind : ℕ) → IsByteCause decision.cause
    → ¬ (answer_number access decision ≡ no_access kind)

-- a number of no access gives the fault code of its kind
abbrev pub NoAccessFaultLaw : Type 0
NoAccessFaultLaw = (kind : Kind) → no_access (kind_number kind) / 1024 ≡ access_fault_code kind

-- two decisions on one access with the same number are the same
abbrev pub AnswerLaw : Type 0
AnswerLaw = (access : Access) (one other : Decision) → IsByteCause one.cause → IsByteCause other.cause
    → answer_number access one ≡ answer_number access other → one ≡ other

-- what the header's inline functions read from an answer: whether the access is allowed, its fault code, and what
-- decided
pub record IsReadOff (access : Access) (decision : Decision) : Type 0 where
  pub allowed : answer_number access decision < 1024 ↔ decision.allowed ≡ true
  pub fault : answer_number access decision / 1024 ≡ fault_number access.kind decision.allowed
  pub cause : answer_number access decision % 1024 ≡ cause_number decision.cause

abbrev pub ReadingLaw : Type 0
ReadingLaw = (access : Access) (decision : Decision) → IsByteCause decision.cause → IsReadOff access decision
