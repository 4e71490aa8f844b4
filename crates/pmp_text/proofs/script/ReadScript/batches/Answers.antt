use Rattle.std.proofs.Common.{sym}
use Rattle.pmp_text.proofs.Pieces.{length-cut_from}
use Rattle.pmp_text.proofs.script.ReadScript.batches.Goals as goal

pub returns : goal.returns
returns c = rw (← c.self.view_is) (sym (length-cut_from c.self.inside.events.now 0 c.self.inside.ends.now))
