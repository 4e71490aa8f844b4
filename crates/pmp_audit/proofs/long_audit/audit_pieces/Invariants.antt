use Rattle.std.proofs.Common.{ℕ, List, Option}
use Rattle.pmp_text.specs.Cutting.{IsCut}
use Rattle.pmp_audit.proofs.LongSteps.{Going}
use Rattle.pmp_audit.proofs.long_audit.audit_pieces.Given as goal

-- whole pieces were read and reported, and the next one is cut off
abbrev pub invariant-loop-count : goal.invariant-loop-count
invariant-loop-count g l = (in_mid : Option (List ℕ)) × (held : List ℕ)
    × Going l.script l.audit.first l._count (g.R.Read.remaining l.fn.reader) in_mid held
    (g.W.Write.contents l.fn.writer) (g.W.Write.contents l.writer) l.standing
    × IsCut l.audit.limit held in_mid (g.R.Read.remaining l.reader) l.held.items l.cut
