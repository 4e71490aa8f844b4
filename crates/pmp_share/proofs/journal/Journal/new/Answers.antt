use Rattle.std.proofs.Common.{[]}
use Rattle.pmp_share.proofs.JournalFacts.{none_stands, stands_for, stands_cut}
use Rattle.pmp_share.proofs.journal.Journal.new.Goals as goal

pub invariant_of-result : goal.invariant_of-result
invariant_of-result c = rw (c.new-2.ensures.items, c.new.ensures.items) (stands_cut [] [] [] none_stands)

pub returns : goal.returns
returns c = rw (c.new-2.ensures.items, c.new.ensures.items) (stands_for [] [] [] none_stands)
