use Rattle.pmp_import.proofs.WholeSurveys.{Looking}
use Rattle.pmp_import.proofs.whole_log.survey_log.Given as goal

abbrev pub invariant-loop-count : goal.invariant-loop-count
invariant-loop-count g l = Looking l.format l.fn.hart l._count (g.R.Read.remaining l.fn.reader)
    (g.R.Read.remaining l.reader) l.held.items l.survey
