use Rattle.std.proofs.Common.{sym}
use Rattle.pmp_text.proofs.Pieces.{all_pieces}
use Rattle.pmp_text.proofs.script.ReadScript.events.Goals as goal

pub returns : goal.returns
returns c = rw (← c.self.view_is) (sym (all_pieces c.self.inside.events.now c.self.inside.ends.now
    c.self.invariant.ascending c.self.invariant.whole))
