use Rattle.std.proofs.Common.{◌≡◌, length, drop, fold}
use Rattle.pmp_core.specs.RegisterWrite.{step}
use Rattle.pmp_core.proofs.register_file.RegFile.run_events.Given as goal

abbrev pub invariant-loop-event : goal.invariant-loop-event
invariant-loop-event l = (fold step l.self (drop l.event-index l.events) ≡ fold step l.fn.self l.events)
    × (length l.self.entries ≡ length l.fn.self.entries)
