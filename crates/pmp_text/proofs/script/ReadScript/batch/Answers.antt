use Rattle.pmp_text.proofs.Pieces.{length-cut_from}
use Rattle.pmp_text.proofs.script.ReadScript.batch.Goals as goal

pub part_of-requires-clause-index : goal.part_of-requires-clause-index
part_of-requires-clause-index c =
    rw (← c.self.view_is, length-cut_from c.self.inside.events.now 0 c.self.inside.ends.now) at c.requires

pub returns-clause-events : goal.returns-clause-events
returns-clause-events c = rw (← c.self.view_is) c.part_of.ensures.part
