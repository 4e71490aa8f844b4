use Rattle.std.proofs.Common.{refl, sym}
use Rattle.std.proofs.lemmas.Result.{err_from_is_err_and}
use Rattle.pmp_tool.specs.Questions.{allowed_moment, unnamed_moment}
use Rattle.pmp_tool.proofs.questions.add_rows.Goals as goal

pub returns-in_err-allow_name-in-Check-clause-err : goal.returns-in_err-allow_name-in-Check-clause-err
returns-in_err-allow_name-in-Check-clause-err g c =
    let exit = c.from_residual in
    let p = err_from_is_err_and exit.result exit.ensures.1 in
    rw (p.1, p.2, c.in-Check.is)
    (unnamed_moment c.in_err-allow_name-in-Check.field-0.0 (sym c.in_err-allow_name-in-Check.ensures))

pub returns-in_err-decision-in-Check-clause-err : goal.returns-in_err-decision-in-Check-clause-err
returns-in_err-decision-in-Check-clause-err g c =
    let exit = c.from_residual-in_err-decision-in-Check in
    let p = err_from_is_err_and exit.result exit.ensures.1 in
    rw (p.1, p.2, c.in-Check.is) (allowed_moment _ (sym c.in_ok-allow_name-in-Check.ensures) (record {
      fault = c.in_err-decision-in-Check.field-0.0;
      is = refl;
      declined = c.in_err-decision-in-Check.ensures.err;
    }))

pub returns-in_err-allow_name-in-Why-clause-err : goal.returns-in_err-allow_name-in-Why-clause-err
returns-in_err-allow_name-in-Why-clause-err g c =
    let exit = c.from_residual-in_err-allow_name-in-Why in
    let p = err_from_is_err_and exit.result exit.ensures.1 in
    rw (p.1, p.2, c.in-Why.is)
    (unnamed_moment c.in_err-allow_name-in-Why.field-0.0 (sym c.in_err-allow_name-in-Why.ensures))

pub returns-in_err-decision-in-Why-clause-err : goal.returns-in_err-decision-in-Why-clause-err
returns-in_err-decision-in-Why-clause-err g c =
    let exit = c.from_residual-in_err-decision-in-Why in
    let p = err_from_is_err_and exit.result exit.ensures.1 in
    rw (p.1, p.2, c.in-Why.is) (allowed_moment _ (sym c.in_ok-allow_name-in-Why.ensures) (record {
      fault = c.in_err-decision-in-Why.field-0.0;
      is = refl;
      declined = c.in_err-decision-in-Why.ensures.err;
    }))

pub returns-in_err-allow_name-in-List-clause-err : goal.returns-in_err-allow_name-in-List-clause-err
returns-in_err-allow_name-in-List-clause-err g c =
    let exit = c.from_residual-in_err-allow_name-in-List in
    let p = err_from_is_err_and exit.result exit.ensures.1 in
    rw (p.1, p.2, c.in-List.is)
    (unnamed_moment c.in_err-allow_name-in-List.field-0.0 (sym c.in_err-allow_name-in-List.ensures))

pub returns-in_err-add_listing-in-List-clause-err : goal.returns-in_err-add_listing-in-List-clause-err
returns-in_err-add_listing-in-List-clause-err g c =
    let exit = c.from_residual-in_err-add_listing-in-List in
    let p = err_from_is_err_and exit.result exit.ensures.1 in
    rw (p.1, p.2, c.in-List.is) (allowed_moment _ (sym c.in_ok-allow_name-in-List.ensures) (record {
      fault = c.in_err-add_listing-in-List.field-0.0;
      is = refl;
      declined = c.in_err-add_listing-in-List.ensures.err;
    }))

pub returns-in_err-summary-in-Writes-clause-err : goal.returns-in_err-summary-in-Writes-clause-err
returns-in_err-summary-in-Writes-clause-err g c =
    let exit = c.from_residual-in_err-summary-in-Writes in
    let p = err_from_is_err_and exit.result exit.ensures.1 in
    rw (p.1, p.2, c.in-Writes.is) (record {
      fault = c.in_err-summary-in-Writes.field-0.0;
      is = refl;
      declined = c.in_err-summary-in-Writes.ensures.err;
    })

pub returns-in_err-count-in-Lint-clause-err : goal.returns-in_err-count-in-Lint-clause-err
returns-in_err-count-in-Lint-clause-err g c =
    let exit = c.from_residual-in_err-count-in-Lint in
    let p = err_from_is_err_and exit.result exit.ensures.1 in
    rw (p.1, p.2, c.in-Lint.is) (record {
      fault = c.in_err-count-in-Lint.field-0.0;
      is = refl;
      declined = c.in_err-count-in-Lint.ensures.err;
    })
