use Rattle.std.proofs.Common.{ℕ, ◌-◌, ◌<◌, ◌≤◌}
use Rattle.pmp_core.specs.declared.access.TheConstants.{ADDRESS_LIMIT}
use Rattle.pmp_audit.specs.PolicyQuestions.{IsYes}
use Rattle.pmp_audit.proofs.policy_check.search.first_run.Given as goal

-- of the bytes before this one the answer is no
abbrev pub invariant-loop-first : goal.invariant-loop-first
invariant-loop-first l = record {
  from : l.row.first ≤ l.first;
  inside : l.first ≤ ADDRESS_LIMIT;
  none : (byte : ℕ) → l.row.first ≤ byte → byte < l.first → ¬ (IsYes l.question l.file l.row byte);
}

abbrev pub decreases-loop-first : goal.decreases-loop-first
decreases-loop-first l = ADDRESS_LIMIT - l.first
