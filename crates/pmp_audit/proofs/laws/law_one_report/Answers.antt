use Rattle.pmp_audit.proofs.OneReport.{one_report}
use Rattle.pmp_audit.proofs.laws.law_one_report.Goals as goal

pub returns : goal.returns
returns c = one_report c.law_one_list_of_decisions.ensures
