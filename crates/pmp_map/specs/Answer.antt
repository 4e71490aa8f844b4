-- The number of an answer.
use Rattle.std.specs.Prelude.{ℕ, ◌+◌, ◌*◌, ◌==◌, Bool, if◌then◌else◌}
use Rattle.pmp_core.specs.declared.access.Access.{Access}
use Rattle.pmp_core.specs.declared.access.Kind.{Kind}
use Rattle.pmp_core.specs.declared.decision.Cause.{Cause}
use Rattle.pmp_core.specs.declared.decision.Cause.TheVariants.{Rule, Split, NoMatch}
use Rattle.pmp_core.specs.declared.decision.Decision.{Decision}
use Rattle.pmp_map.specs.declared.answer.TheConstants.{NO_CAUSE}
use Rattle.pmp_core.specs.FaultCode.{access_fault_code}

abbrev pub cause_number : Cause → ℕ
cause_number (Rule i) = i
cause_number (Split i) = 256 + i
cause_number NoMatch = 512

-- the exception code (Volume II, 3.1.15), or 0 if the access is allowed
abbrev pub fault_number : Kind → (allowed : Bool) → ℕ
fault_number kind allowed = if allowed then 0 else access_fault_code kind

abbrev pub number_by : Kind → Cause → (allowed : Bool) → ℕ
number_by kind cause allowed = cause_number cause + 1024 * fault_number kind allowed

-- the answer if the numbers name no access: no cause, and the fault of the kind, or of a load if the number names no
-- kind
abbrev pub no_cause : ℕ
no_cause = NO_CAUSE

abbrev pub no_access : (kind : ℕ) → ℕ
no_access kind = no_cause + 1024 * (if kind == 0 then 1 else (if kind == 2 then 7 else 5))

-- the access's answer number
abbrev pub answer_number : Access → Decision → ℕ
answer_number access decision = number_by access.kind decision.cause decision.allowed
