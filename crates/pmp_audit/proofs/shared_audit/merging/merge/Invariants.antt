use Rattle.std.proofs.Common.{◌≡◌, ◌+◌, ◌++◌, List, length, take}
use Rattle.pmp_core.specs.declared.decision.Decision.{Decision}
use Rattle.pmp_audit.specs.Rounds.{AreDealt}
use Rattle.pmp_audit.proofs.shared_audit.merging.merge.Given as goal

-- the decisions of the rows so far are added
abbrev pub invariant-loop-place : goal.invariant-loop-place
invariant-loop-place l = (made : List Decision) → length made ≡ l.count
    → AreDealt (length l.fn.decided.items + 1) made l.all → l.decided.items ≡ l.fn.decided.items ++ take l.place made
