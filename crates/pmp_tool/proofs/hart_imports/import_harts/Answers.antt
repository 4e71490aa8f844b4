use Rattle.std.proofs.Common.{rules}
use Rattle.std.proofs.lemmas.Result.{err_from_is_err_and}
use Rattle.pmp_tool.specs.HartImports.{no_harts, one_fails, unmade, unread_log}
use Rattle.pmp_tool.proofs.HartImporting.{none_made}
use Rattle.pmp_tool.proofs.hart_imports.import_harts.Goals as goal

pub returns-in_err-survey-clause-err : goal.returns-in_err-survey-clause-err
returns-in_err-survey-clause-err g c =
    let p = err_from_is_err_and c.from_residual.result c.from_residual.ensures.1 in
    rw (p.1, p.2) (unread_log _ c.in_err-survey.ensures.err)

pub returns-in_err-all-clause-err : goal.returns-in_err-all-clause-err
returns-in_err-all-clause-err g c =
    let exit = c.from_residual-in_err-all in
    let p = err_from_is_err_and exit.result exit.ensures.1 in
    let survey = c.in_ok-survey.ensures in
    rw (p.1, p.2) (one_fails _ (rw survey.paths at c.in_err-all.ensures.err))

pub returns-then-is_empty-clause-err : goal.returns-then-is_empty-clause-err
returns-then-is_empty-clause-err g c =
    let found = c.in_ok-all.ensures.ok in
    rw c.from.ensures (no_harts c.in_ok-survey.survey c.in_ok-survey.ensures.ok
    (none_made _ c.in_ok-all.all.items (search rules) found.names))

pub returns-in_err-make_folder-clause-err : goal.returns-in_err-make_folder-clause-err
returns-in_err-make_folder-clause-err g c =
    let exit = c.from_residual-in_err-make_folder in
    let p = err_from_is_err_and exit.result exit.ensures.1 in
    let survey = c.in_ok-survey.ensures in
    rw (p.1, p.2) (unmade c.in_ok-survey.survey survey.ok c.in_ok-all.all.items
    (rw survey.paths at c.in_ok-all.ensures.ok) (search rules)
    c.in_err-make_folder.field-0.0 c.in_err-make_folder.ensures.unmade)
