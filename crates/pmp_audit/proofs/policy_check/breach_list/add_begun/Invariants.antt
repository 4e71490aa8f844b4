use Rattle.std.proofs.Common.{◌≡◌, ◌++◌, drop}
use Rattle.pmp_audit.specs.PolicyBreaches.{begun}
use Rattle.pmp_audit.proofs.policy_check.breach_list.add_begun.Given as goal

-- the breaches so far, and those of the other runs, are all
abbrev pub invariant-loop-run : goal.invariant-loop-run
invariant-loop-run l =
    l.all.items ++ begun l.done l.before (drop l.run-index l.now) ≡ l.fn.all.items ++ begun l.done l.before l.now
