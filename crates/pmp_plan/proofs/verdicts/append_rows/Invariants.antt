use Rattle.std.proofs.Common.{◌≡◌, ℕ, List, ◌++◌, take}
use Rattle.pmp_plan.specs.Verdicts.{AreJudged}
use Rattle.pmp_plan.proofs.verdicts.append_rows.Given as goal

-- the rows so far are judged
abbrev pub invariant-loop-index : goal.invariant-loop-index
invariant-loop-index g l =
    (text : List ℕ) × AreJudged l.registers (take l.index l.rows) text
    × (g.S.Sink.text l.out ≡ g.S.Sink.text l.initial.out ++ text)
