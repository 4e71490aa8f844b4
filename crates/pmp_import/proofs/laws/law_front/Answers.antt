use Rattle.pmp_import.proofs.FrontTexts.{begins_with_front}
use Rattle.pmp_import.proofs.laws.law_front.Goals as goal

pub returns : goal.returns
returns c = begins_with_front
