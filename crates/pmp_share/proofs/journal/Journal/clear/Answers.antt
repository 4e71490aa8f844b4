use Rattle.std.proofs.Common.{[]}
use Rattle.pmp_share.proofs.JournalFacts.{none_stands, stands_for, stands_cut}
use Rattle.pmp_share.proofs.journal.Journal.clear.Goals as goal

pub invariant_of-self : goal.invariant_of-self
invariant_of-self c = rw (c.clear-2.ensures.items, c.clear.ensures.items) (stands_cut [] [] [] none_stands)

pub returns : goal.returns
returns c = rw (c.clear-2.ensures.items, c.clear.ensures.items) (stands_for [] [] [] none_stands)
