use Rattle.std.proofs.Common.{◌≡◌}
use Rattle.pmp_audit.specs.Moments.{AllLast}
use Rattle.pmp_audit.proofs.moments.lasting.Given as goal

-- so many publications are done, and from when on it lasts is known of them
abbrev pub invariant-loop-done : goal.invariant-loop-done
invariant-loop-done l = (l.replay ≡ record { script = l.fn.script; done = l.done })
    × AllLast l.fn.script l.done l.lasting
