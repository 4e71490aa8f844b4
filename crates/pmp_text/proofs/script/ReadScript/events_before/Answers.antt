use Rattle.std.proofs.Common.{◌∙◌, arith}
use Rattle.pmp_text.proofs.Pieces.{length-cut_from, length_of_first}
use Rattle.pmp_text.proofs.script.ReadScript.events_before.Goals as goal

pub end_of-requires : goal.end_of-requires
end_of-requires c =
    let pieces = length-cut_from c.self.inside.events.now 0 c.self.inside.ends.now in
    let below = rw (← c.self.view_is, pieces) at c.requires in omega arith

pub returns : goal.returns
returns c = rw (← c.self.view_is) (c.end_of.ensures ∙ length_of_first c.self.inside.events.now c.args.publications
    c.self.inside.ends.now c.self.invariant.ascending c.self.invariant.whole)
