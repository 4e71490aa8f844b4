use Rattle.pmp_text.proofs.Pieces.{length-cut_from}
use Rattle.pmp_text.proofs.script.sized.Script.batch.Goals as goal

pub part_of-requires-clause-index : goal.part_of-requires-clause-index
part_of-requires-clause-index c =
    rw c.deref-2.ensures.value
    (rw (← c.self.view_is, length-cut_from c.self.inside.events.items 0 c.self.inside.ends.items) at c.requires)

pub returns-clause-events : goal.returns-clause-events
returns-clause-events c =
    rw (← c.self.view_is) (rw (c.deref.ensures.value, c.deref-2.ensures.value) at c.part_of.ensures.part)
