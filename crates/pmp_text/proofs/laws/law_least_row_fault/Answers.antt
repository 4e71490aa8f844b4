use Rattle.pmp_text.proofs.LeastRows.{first_row_is_least, least_row_is_answered}
use Rattle.pmp_text.proofs.laws.law_least_row_fault.Goals as goal

pub returns : goal.returns
returns c = record { first = first_row_is_least; answered = least_row_is_answered }
