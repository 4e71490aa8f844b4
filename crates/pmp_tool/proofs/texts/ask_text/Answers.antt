use Rattle.std.proofs.Common.{false, inl, inr, true}
use Rattle.std.proofs.lemmas.Result.{IfErr-weaker, IfOk-weaker, err_from_is_err_and}
use Rattle.pmp_tool.specs.Texts.{harts_fail, no_harts, of_harts, of_one, one_fails}
use Rattle.pmp_tool.proofs.texts.ask_text.Goals as goal

pub returns-in_err-harts-clause-err : goal.returns-in_err-harts-clause-err
returns-in_err-harts-clause-err g c =
    let p = err_from_is_err_and c.from_residual.result c.from_residual.ensures.1 in
    rw (p.1, p.2) (inr (no_harts _ c.in_err-harts.ensures.unfound))

pub returns-in_default-clause-ok : goal.returns-in_default-clause-ok
returns-in_default-clause-ok g c =
    let found = c.in_ok-harts.ensures in
    IfOk-weaker c.text_of_one.result _ _ (λ both says. (
      false,
      (
        _,
        of_one says.0 (rw c.in_default.is at found.found)
            says.1,
        says.2,
      ),
    )) (rw found.paths at c.text_of_one.ensures.ok)

pub returns-in_default-clause-err : goal.returns-in_default-clause-err
returns-in_default-clause-err g c =
    let found = c.in_ok-harts.ensures in
    IfErr-weaker c.text_of_one.result _ _ (λ failure fails. elim fails [
      | inl memory ↦ inl memory
      | inr path ↦ inr (one_fails _ (rw c.in_default.is at found.found) path)
    ]) (rw found.paths at c.text_of_one.ensures.err)

pub returns-in_err-outcome-clause-err : goal.returns-in_err-outcome-clause-err
returns-in_err-outcome-clause-err g c =
    let exit = c.from_residual-in_err-outcome in
    let p = err_from_is_err_and exit.result exit.ensures.1 in
    let found = c.in_ok-harts.ensures in
    rw (p.1, p.2) (inr (harts_fail c.in-Some.harts _ (rw c.in-Some.is at found.found)
    (rw found.paths at c.in_err-outcome.ensures.err)))

pub returns-clause-ok : goal.returns-clause-ok
returns-clause-ok g c =
    let found = c.in_ok-harts.ensures in (
      true,
      (
        c.in_ok-outcome.rows.items,
        of_harts c.in-Some.harts _ (rw c.in-Some.is at found.found)
            (rw found.paths at c.in_ok-outcome.ensures.ok),
        rw c.deref.ensures.value at c.in_ok-text.ensures,
      ),
    )
