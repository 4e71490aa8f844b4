use Rattle.std.proofs.Common.{arith}
use Rattle.pmp_text.proofs.Pieces.{length-cut_from}
use Rattle.pmp_text.proofs.script.sized.Script.batches.Goals as goal

pub returns : goal.returns
returns c =
    let ends = c.self.inside.ends in
    let size = length-cut_from c.self.inside.events.items 0 ends.items in
    rw (← c.self.view_is) (omega (arith, c.len.ensures, ends.ok, size))
