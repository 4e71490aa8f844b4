-- Which answer to a check is expected.
use Rattle.std.specs.Prelude.{Bool, not}
use Rattle.pmp_core.specs.declared.decision.Decision.{Decision}
use Rattle.pmp_tool.specs.declared.expected.Expected.{Expected}
use Rattle.pmp_tool.specs.declared.expected.Expected.TheVariants.{Allow, Fault}

-- the decision is the expected answer
abbrev pub is_met : Expected → Decision → Bool
is_met Allow decision = decision.allowed
is_met Fault decision = not decision.allowed
