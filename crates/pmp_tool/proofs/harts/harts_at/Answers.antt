use Rattle.std.proofs.Common.{map, string_bytes}
use Rattle.std.proofs.lemmas.Result.{err_from_is_err_and}
use Rattle.pmp_tool.specs.Finding.{unfit, unlisted}
use Rattle.pmp_tool.proofs.harts.harts_at.Goals as goal

pub returns-in_err-files-clause-unfound : goal.returns-in_err-files-clause-unfound
returns-in_err-files-clause-unfound g c =
    let p = err_from_is_err_and c.from_residual.result c.from_residual.ensures.1 in
    let (fault, cant, is) = c.in_err-files.ensures.unlisted in
    rw (p.1, p.2, is) (unlisted fault cant)

pub returns-in_err-harts_of-clause-unfound : goal.returns-in_err-harts_of-clause-unfound
returns-in_err-harts_of-clause-unfound g c =
    let exit = c.from_residual-in_err-harts_of in
    let p = err_from_is_err_and exit.result exit.ensures.1 in
    let (fault, none, is) = c.in_err-harts_of.ensures.err in
    rw (p.1, p.2, is) (unfit fault (map string_bytes c.in-Some.files.items)
    (rw c.in-Some.is at c.in_ok-files.ensures.listed) (rw c.deref.ensures.value at none))
