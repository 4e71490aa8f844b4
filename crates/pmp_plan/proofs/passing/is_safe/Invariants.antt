use Rattle.std.proofs.Common.{◌≡◌, ℕ, ◌≤◌, fold, take}
use Rattle.pmp_core.specs.RegisterWrite.{step}
use Rattle.pmp_plan.specs.Routes.{StaysAs}
use Rattle.pmp_plan.proofs.passing.is_safe.Given as goal

-- after each write so far all stays as it is
abbrev pub invariant-loop-event : goal.invariant-loop-event
invariant-loop-event l = record {
  during : l.during ≡ fold step l.start (take l.event-index l.writes);
  safe : (done : ℕ) → done ≤ l.event-index
      → StaysAs l.watch l.start (fold step l.start (take done l.writes)) (fold step l.start l.writes);
}
