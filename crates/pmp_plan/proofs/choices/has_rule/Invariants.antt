use Rattle.std.proofs.Common.{◌≡◌, ℕ, ◌<◌, slice_index}
use Rattle.pmp_core.specs.Configuration.{configuration_of}
use Rattle.pmp_plan.specs.declared.choices.TheConstants.{RULES}
use Rattle.pmp_plan.specs.PlanRules.{IsRuleFor}
use Rattle.pmp_plan.proofs.choices.has_rule.Given as goal

-- no rule so far gives what is asked
abbrev pub invariant-loop-byte : goal.invariant-loop-byte
invariant-loop-byte l = record {
  all : l.byte-items ≡ RULES;
  none : (place : ℕ) → place < l.byte-index
      → ¬ (IsRuleFor l.security l.demand (configuration_of (slice_index RULES place)));
}
