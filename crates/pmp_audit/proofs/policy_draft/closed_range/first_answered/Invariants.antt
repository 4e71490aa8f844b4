use Rattle.std.proofs.Common.{◌-◌}
use Rattle.pmp_core.specs.declared.access.TheConstants.{ADDRESS_LIMIT}
use Rattle.pmp_audit.specs.AnsweredBytes.{AreAnsweredTo}
use Rattle.pmp_audit.proofs.policy_draft.closed_range.first_answered.Given as goal

-- all bytes before this one are answered otherwise
abbrev pub invariant-loop-first : goal.invariant-loop-first
invariant-loop-first l = AreAnsweredTo l.registers l.allowed l.mode l.kind l.from l.first

abbrev pub decreases-loop-first : goal.decreases-loop-first
decreases-loop-first l = ADDRESS_LIMIT - l.first
