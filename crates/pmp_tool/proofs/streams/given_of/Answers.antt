use Rattle.std.proofs.Common.{rules, sym}
use Rattle.std.proofs.lemmas.Result.{err_from_is_err_and}
use Rattle.std.proofs.KnownBytes.{Keeps-refl}
use Rattle.pmp_text.specs.Inputs.{refusal_of_input}
use Rattle.pmp_tool.specs.Streams.{once, twice, ungiven, unopened, unsurveyed}
use Rattle.pmp_tool.proofs.Reading.{bytes_given}
use Rattle.pmp_tool.proofs.streams.given_of.Goals as goal

pub returns-then-eq-clause-ok : goal.returns-then-eq-clause-ok
returns-then-eq-clause-ok g c = once c.alone-given.result (search rules) c.alone-given.ensures

pub returns-in_err-log-clause-err : goal.returns-in_err-log-clause-err
returns-in_err-log-clause-err g c = λ out.
    let p = err_from_is_err_and c.from_residual.result c.from_residual.ensures.1 in
    rw (p.1, p.2) (unopened (refusal_of_input c.in_err-log.field-0.0) c.in_err-log.ensures.unopened (Keeps-refl out))

pub returns-in_err-survey-clause-err : goal.returns-in_err-survey-clause-err
returns-in_err-survey-clause-err g c = λ out.
    let exit = c.from_residual-in_err-survey in
    let p = err_from_is_err_and exit.result exit.ensures.1 in
    let cant = c.in_err-survey.ensures.err in
    rw (p.1, p.2) (unsurveyed cant.log c.in_err-survey.field-0.0
    (bytes_given _ _ cant.log c.in_ok-log.ensures.opened cant.is_log) cant.stops (Keeps-refl out))

pub returns-in_err-given-clause-err : goal.returns-in_err-given-clause-err
returns-in_err-given-clause-err g c = λ out.
    let exit = c.from_residual-in_err-given in
    let p = err_from_is_err_and exit.result exit.ensures.1 in
    let found = c.in_ok-survey.ensures.ok in
    rw (p.1, p.2) (ungiven found.log c.in_ok-survey.survey c.in_err-given.field-0.0
    (bytes_given _ _ found.log c.in_ok-log.ensures.opened found.is_log) found.found (sym c.in_err-given.ensures)
    (Keeps-refl out))

pub returns-clause-ok : goal.returns-clause-ok
returns-clause-ok g c =
    let found = c.in_ok-survey.ensures.ok in
    twice c.in_ok-given.given found.log c.in_ok-survey.survey (search rules)
    (bytes_given _ _ found.log c.in_ok-log.ensures.opened found.is_log) found.found (sym c.in_ok-given.ensures)
