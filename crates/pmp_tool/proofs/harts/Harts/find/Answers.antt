use Rattle.std.proofs.Common.{◌∙◌, sym}
use Rattle.std.proofs.lemmas.Result.{err_from_is_err_and}
use Rattle.pmp_tool.specs.Harts.{one_reading, other_harts}
use Rattle.pmp_tool.proofs.Harting.{unfound_at}
use Rattle.pmp_tool.proofs.harts.Harts.find.Goals as goal

pub returns-in_err-old-clause-unfound : goal.returns-in_err-old-clause-unfound
returns-in_err-old-clause-unfound g c =
    let p = err_from_is_err_and c.from_residual.result c.from_residual.ensures.1 in
    rw (p.1, p.2) (unfound_at (g.I.Inputs.paths c.args.inputs.now).folders _ _ c.args.asking.path.now _ _
    c.in_err-old.ensures.unfound)

pub returns-in_err-new-clause-unfound : goal.returns-in_err-new-clause-unfound
returns-in_err-new-clause-unfound g c =
    let exit = c.from_residual-in_err-new in
    let p = err_from_is_err_and exit.result exit.ensures.1 in
    let (path, side, unfound) = rw c.in_ok-old.ensures.paths at c.in_err-new.ensures.unfound in
    rw (p.1, p.2) (unfound_at (g.I.Inputs.paths c.args.inputs.now).folders _ _ path side _ unfound)

pub returns-in_err-harts-clause-unfound : goal.returns-in_err-harts-clause-unfound
returns-in_err-harts-clause-unfound g c =
    let exit = c.from_residual-in_err-harts in
    let p = err_from_is_err_and exit.result exit.ensures.1 in
    let parted = c.in_err-harts.ensures.err in
    rw (p.1, p.2, parted.is)
    (other_harts parted.old_harts parted.new_harts (rw parted.old_are at c.in_ok-old.ensures.found)
    (rw (c.in_ok-old.ensures.paths, parted.new_are) at c.in_ok-new.ensures.found) parted.unlike)

pub returns-then-reads_stdin-clause-unfound : goal.returns-then-reads_stdin-clause-unfound
returns-then-reads_stdin-clause-unfound g c =
    rw c.from.ensures (one_reading (sym c.reads_stdin.ensures ∙ c.if-reads_stdin.true))
