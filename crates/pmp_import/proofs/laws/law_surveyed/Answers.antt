use Rattle.pmp_import.proofs.SurveyedLogs.{surveyed_has_script}
use Rattle.pmp_import.proofs.laws.law_surveyed.Goals as goal

pub returns : goal.returns
returns c = surveyed_has_script
