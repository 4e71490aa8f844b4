use Rattle.pmp_audit.proofs.OneDraft.{one_draft}
use Rattle.pmp_audit.proofs.laws.law_one_draft.Goals as goal

pub returns : goal.returns
returns c = one_draft
