use Rattle.std.proofs.Common.{refl}
use Rattle.std.proofs.lemmas.List.{take_rest}
use Rattle.pmp_audit.proofs.LongParts.{parts_reported}
use Rattle.pmp_audit.proofs.long_audit.parts.+parts.Goals as goal

pub returns-in-Some-2-clause-ok : goal.returns-in-Some-2-clause-ok
returns-in-Some-2-clause-ok g t c =
    let text = c.args.piece.text.now in
    parts_reported c.args.piece.script.now c.args.piece.standing c.likely_behind-middle.result c.likely_behind-middle.ensures text
    _ _ c.in-Some.end c.in-Some.ensures.0 c.in-Some.ensures.1 refl (take_rest text c.in-Some.end) c.in-Some-2.both
    c.join-front.result.0 c.join-front.result.1 c.join-front.ensures.first c.join-front.ensures.second
    (rw c.in-Some-2.is at c.in_ok-both.ensures)
