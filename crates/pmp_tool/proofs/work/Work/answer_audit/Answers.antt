use Rattle.std.proofs.Common.{◌∙◌, inr, refl}
use Rattle.std.proofs.lemmas.Result.{IfErr-weaker, IfOk-weaker, err_from_is_err_and}
use Rattle.std.proofs.KnownBytes.{Keeps-refl}
use Rattle.pmp_tool.specs.declared.request.Printed.TheVariants.{Ask}
use Rattle.pmp_tool.specs.declared.request.Question.TheVariants.{Audit}
use Rattle.pmp_tool.specs.declared.request.Request.TheVariants.{Print}
use Rattle.pmp_tool.specs.Runs.{has_no_text, prints, streams, unstreamed}
use Rattle.pmp_tool.specs.Texts.{no_harts}
use Rattle.pmp_tool.proofs.work.Work.answer_audit.Goals as goal

pub returns-in_err-find-clause-err : goal.returns-in_err-find-clause-err
returns-in_err-find-clause-err g c =
    let p = err_from_is_err_and c.from_residual.result c.from_residual.ensures.1 in
    rw (p.1, p.2) (has_no_text (Ask c.args.path (Audit c.args.audit)) _ (inr (no_harts _ c.in_err-find.ensures.unfound))
    (Keeps-refl _))

pub returns-in_default-clause-ok : goal.returns-in_default-clause-ok
returns-in_default-clause-ok g c =
    let found = c.in_ok-find.ensures in
    rw (c.write_report.ensures.paths ∙ found.paths) (IfOk-weaker c.write_report.result _ _
    (λ outcome written. streams (Print (Ask c.args.path (Audit c.args.audit))) outcome refl
    (rw c.in_default.is at found.found, written))
    (rw found.paths at c.write_report.ensures.ok))

pub returns-in_default-clause-err : goal.returns-in_default-clause-err
returns-in_default-clause-err g c =
    let found = c.in_ok-find.ensures in
    IfErr-weaker c.write_report.result _ _
    (λ failure fails. unstreamed (Print (Ask c.args.path (Audit c.args.audit))) failure refl
    (rw c.in_default.is at found.found, fails))
    (rw found.paths at c.write_report.ensures.err)

pub returns-clause-ok : goal.returns-clause-ok
returns-clause-ok g c =
    let found = c.in_ok-find.ensures in
    rw (c.print.ensures.paths ∙ found.paths) (IfOk-weaker c.print.result _ _
    (λ outcome says. prints (Ask c.args.path (Audit c.args.audit)) outcome says.0 says.1 says.2)
    (rw found.paths at c.print.ensures.ok))

pub returns-clause-err : goal.returns-clause-err
returns-clause-err g c = rw c.in_ok-find.ensures.paths at c.print.ensures.err
