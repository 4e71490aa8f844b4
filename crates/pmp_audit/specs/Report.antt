-- How many accesses of a report were refused.
use Rattle.std.specs.Prelude.{ℕ, List, count_by, not}
use Rattle.pmp_core.specs.declared.decision.Decision.{Decision}

abbrev pub refused_count : List Decision → ℕ
refused_count decisions = count_by (λ decision. not decision.allowed) decisions
