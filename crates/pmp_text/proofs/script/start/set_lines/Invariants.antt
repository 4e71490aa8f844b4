use Rattle.std.proofs.Common.{◌≡◌, drop, fold}
use Rattle.pmp_text.specs.Heads.{with_set}
use Rattle.pmp_text.proofs.script.start.set_lines.Given as goal

abbrev pub invariant-loop-line : goal.invariant-loop-line
invariant-loop-line l = fold (λ saved line. with_set l.hart saved line.statement) l.saved (drop l.line-index l.lines)
    ≡ fold (λ saved line. with_set l.hart saved line.statement) l.fn.saved l.lines
