use Rattle.std.proofs.lemmas.Result.{err_from_is_err_and}
use Rattle.pmp_tool.specs.HartComparisons.{no_folder, unread_file}
use Rattle.pmp_tool.proofs.HartComparing.{comparison_unfound}
use Rattle.pmp_tool.proofs.hart_comparison.compare_harts.Goals as goal

pub returns-in_err-names-clause-err : goal.returns-in_err-names-clause-err
returns-in_err-names-clause-err g c =
    let p = err_from_is_err_and c.from_residual.result c.from_residual.ensures.1 in
    rw (p.1, p.2) (comparison_unfound _ c.args.asked.folder.now _ _ c.in_err-names.ensures.unfound)

pub returns-in_err-script_at-clause-err : goal.returns-in_err-script_at-clause-err
returns-in_err-script_at-clause-err g c =
    let exit = c.from_residual-in_err-script_at in
    let p = err_from_is_err_and exit.result exit.ensures.1 in
    rw (p.1, p.2) (unread_file _ (rw c.in_default.is at c.in_ok-names.ensures.found)
    (rw c.in_ok-names.ensures.paths at c.in_err-script_at.ensures.unread))

pub returns-in_default-clause-err : goal.returns-in_default-clause-err
returns-in_default-clause-err g c =
    rw c.from.ensures (no_folder (rw c.in_default.is at c.in_ok-names.ensures.found))
