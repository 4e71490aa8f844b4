use Rattle.pmp_lint.proofs.OneList.{findings_once}
use Rattle.pmp_lint.proofs.laws.law_one_list_of_findings.Goals as goal

pub returns : goal.returns
returns c = findings_once
