use Rattle.pmp_audit.proofs.OneDraft.{unbroken_draft}
use Rattle.pmp_audit.proofs.laws.law_draft_holds.Goals as goal

pub returns : goal.returns
returns c = unbroken_draft
