use Rattle.std.proofs.Common.{◌≡◌, ◌++◌, drop, filter_map}
use Rattle.pmp_audit.specs.PolicyBreaches.{hit_of}
use Rattle.pmp_audit.proofs.policy_check.breach_list.hits_of.Given as goal

-- the parts so far, and those of the other runs, are all
abbrev pub invariant-loop-run : goal.invariant-loop-run
invariant-loop-run l =
    l.hits.items ++ filter_map (hit_of l.question l.registers l.row) (drop l.run-index l.run-items)
    ≡ filter_map (hit_of l.question l.registers l.row) l.run-items
