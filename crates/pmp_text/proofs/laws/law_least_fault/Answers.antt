use Rattle.pmp_text.proofs.Leasts.{first_is_least, least_is_answered}
use Rattle.pmp_text.proofs.laws.law_least_fault.Goals as goal

pub returns : goal.returns
returns c = record { first = first_is_least; answered = least_is_answered }
