use Rattle.pmp_share.proofs.JournalFacts.{cut_from-ends_from}
use Rattle.pmp_share.proofs.laws.law_journal_cut.Goals as goal

pub returns : goal.returns
returns c = cut_from-ends_from 0
