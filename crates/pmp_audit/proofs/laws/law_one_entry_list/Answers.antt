use Rattle.pmp_audit.proofs.OneEntryList.{one_entry_list}
use Rattle.pmp_audit.proofs.laws.law_one_entry_list.Goals as goal

pub returns : goal.returns
returns c = one_entry_list c.law_one_span.ensures
