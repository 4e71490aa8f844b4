use Rattle.std.proofs.Common.{ap, option_map, refl}
use Rattle.std.proofs.lemmas.Result.{IfErr-weaker, IfOk-weaker, err_from_is_err_and}
use Rattle.std.proofs.KnownBytes.{Keeps-refl}
use Rattle.pmp_tool.specs.declared.outcome.Outcome.TheVariants.{Imported}
use Rattle.pmp_tool.specs.declared.request.Request.TheVariants as request
use Rattle.pmp_tool.specs.Runs.{makes, streams, unmade, unstreamed}
use Rattle.pmp_tool.proofs.run.answer_request.Goals as goal

pub returns-in-LongAudit-clause-ok : goal.returns-in-LongAudit-clause-ok
returns-in-LongAudit-clause-ok g c =
    rw (c.in-LongAudit.is, c.write_long_report.ensures.paths) (IfOk-weaker c.write_long_report.result _ _
    (λ outcome written. streams (request.LongAudit c.in-LongAudit.audit) outcome refl written)
    c.write_long_report.ensures.ok)

pub returns-in-LongAudit-clause-err : goal.returns-in-LongAudit-clause-err
returns-in-LongAudit-clause-err g c =
    rw c.in-LongAudit.is (IfErr-weaker c.write_long_report.result _ _
    (λ failure fails. unstreamed (request.LongAudit c.in-LongAudit.audit) failure refl fails)
    c.write_long_report.ensures.err)

pub returns-in-Some-clause-ok : goal.returns-in-Some-clause-ok
returns-in-Some-clause-ok g c =
    let asked = c.in-Import.asked in
    let is = ap (option_map (λ path. (asked, path.now))) c.in-Some.is in
    rw c.in-Import.is (IfOk-weaker c.import_harts.result _ _
    (λ outcome made. makes (request.Import asked) asked c.in-Some.folder.now _ outcome is made (Keeps-refl _))
    c.import_harts.ensures.ok)

pub returns-in-Some-clause-err : goal.returns-in-Some-clause-err
returns-in-Some-clause-err g c =
    let asked = c.in-Import.asked in
    let is = ap (option_map (λ path. (asked, path.now))) c.in-Some.is in
    rw c.in-Import.is (IfErr-weaker c.import_harts.result _ _
    (λ failure cant. unmade (request.Import asked) asked c.in-Some.folder.now failure is cant (Keeps-refl _))
    c.import_harts.ensures.err)

pub returns-in_err-write_import-in-None-clause-err : goal.returns-in_err-write_import-in-None-clause-err
returns-in_err-write_import-in-None-clause-err g c =
    let asked = c.in-Import.asked in
    let none = ap (option_map (λ path. (asked, path.now))) c.in-None.is in
    let p = err_from_is_err_and c.from_residual.result c.from_residual.ensures.1 in
    rw (p.1, p.2, c.in-Import.is)
    (unstreamed (request.Import asked) _ none c.in_err-write_import-in-None.ensures.err)

pub returns-in_ok-write_import-in-None-clause-ok : goal.returns-in_ok-write_import-in-None-clause-ok
returns-in_ok-write_import-in-None-clause-ok g c =
    let asked = c.in-Import.asked in
    let none = ap (option_map (λ path. (asked, path.now))) c.in-None.is in
    let wrote = c.in_ok-write_import-in-None in
    rw (c.in-Import.is, wrote.ensures.paths)
    (streams (request.Import asked) (Imported wrote.field-0) none wrote.ensures.ok)
