use Rattle.std.proofs.Common.{◌≡◌, ◌++◌, take}
use Rattle.std.specs.List.{flat_map}
use Rattle.pmp_plan.specs.PlanArrays.{array_line}
use Rattle.pmp_plan.proofs.array.append_array.Given as goal

-- the elements so far stand there
abbrev pub invariant-loop-event : goal.invariant-loop-event
invariant-loop-event g l =
    g.S.Sink.text l.out ≡ g.S.Sink.text l.initial.out ++ flat_map array_line (take l.event-index l.writes)
