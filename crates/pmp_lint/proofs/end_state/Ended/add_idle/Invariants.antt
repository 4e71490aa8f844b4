use Rattle.std.specs.List.{flat_map, range_with_len}
use Rattle.std.specs.Option.{option_to_list}
use Rattle.pmp_lint.specs.EndState.{never_decides}
use Rattle.pmp_lint.specs.Telling.{HasTold, telling}
use Rattle.pmp_lint.proofs.end_state.Ended.add_idle.Given as goal

-- the entries so far
abbrev pub invariant-loop-entry : goal.invariant-loop-entry
invariant-loop-entry g l =
    HasTold g.R.RowSink.Adds (flat_map (λ i. option_to_list (never_decides l.self.script.now l.runs i)) (range_with_len 0 l.entry))
    (telling l.fn.out l.fn.told) (telling l.out l.told)
