use Rattle.std.proofs.lemmas.Result.{err_from_is_err_and}
use Rattle.pmp_text.specs.Inputs.{refusal_of_input}
use Rattle.pmp_tool.specs.HartImports.{unopened, unsurveyed}
use Rattle.pmp_tool.proofs.Reading.{bytes_given}
use Rattle.pmp_tool.proofs.hart_imports.survey_at.Goals as goal

pub returns-in_err-log-clause-err : goal.returns-in_err-log-clause-err
returns-in_err-log-clause-err g c =
    let p = err_from_is_err_and c.from_residual.result c.from_residual.ensures.1 in
    rw (p.1, p.2) (unopened (refusal_of_input c.in_err-log.field-0.0) c.in_err-log.ensures.unopened)

pub returns-in_err-survey_log-clause-err : goal.returns-in_err-survey_log-clause-err
returns-in_err-survey_log-clause-err g c =
    let exit = c.from_residual-in_err-survey_log in
    let p = err_from_is_err_and exit.result exit.ensures.1 in
    let cant = c.in_err-survey_log.ensures.err in
    rw (p.1, p.2) (unsurveyed cant.log c.in_err-survey_log.field-0.0
    (bytes_given _ _ cant.log c.in_ok-log.ensures.opened cant.is_log) cant.stops)

pub returns-clause-ok : goal.returns-clause-ok
returns-clause-ok g c =
    let found = c.in_ok-survey_log.ensures.ok in
    record {
      log = found.log;
      is_log = bytes_given _ _ found.log c.in_ok-log.ensures.opened found.is_log;
      found = found.found;
    }
