use Rattle.std.proofs.Common.{length, sym, ap, ◌∙◌}
use Rattle.pmp_share.proofs.JournalFacts.{length_ends}
use Rattle.pmp_share.proofs.journal.Journal.batches.Goals as goal

pub returns : goal.returns
returns c =
    let inside = c.self.inside in
    ap length c.as_slice-ends.ensures.value
    ∙ sym (length_ends inside.ends.items inside.events.items c.self.invariant) ∙ ap length c.self.view_is
