use Rattle.std.proofs.Common.{◌∙◌, ap, sym, arith, map, string_bytes}
use Rattle.std.proofs.lemmas.List.{get_or-map, length-map, map_more, take_all}
use Rattle.std.proofs.lemmas.Result.{err_from_is_err_and}
use Rattle.pmp_names.proofs.Lists.{file_more, no_harts}
use Rattle.pmp_names.proofs.harts.read_names.Goals as goal

pub loop-file-preserved : goal.loop-file-preserved
loop-file-preserved c =
    rw (
      map_more string_bytes c.args.files.now c.loop-file.file-index c.file-item.result c.loop-file-test.true,
      sym c.file-item.is,
    )
    (file_more _ _ _ _ c.loop-file.invariant (rw c.as_str.ensures.value at c.in_ok-add_file.ensures.ok))

pub returns-in_err-add_file-clause-err : goal.returns-in_err-add_file-clause-err
returns-in_err-add_file-clause-err c =
    let p = err_from_is_err_and c.from_residual.result c.from_residual.ensures.1 in
    let files = c.args.files.now in
    let i = c.loop-file.file-index in
    let name = string_bytes c.file-item.result in
    let at = get_or-map string_bytes files i c.file-item.result name c.loop-file-test.true in
    rw (p.1, p.2)
    (no_harts (map string_bytes files) i name
    (omega (arith, c.loop-file-test.true, length-map files string_bytes))
    (at ∙ ap string_bytes (sym c.file-item.is))
    c.in_err-add_file.field-0.0 (rw c.as_str.ensures.value at c.in_err-add_file.ensures.err))

pub returns-clause-ok : goal.returns-clause-ok
returns-clause-ok c =
    rw (take_all c.loop-file.file-index c.args.files.now c.loop-file-test.false) at c.loop-file.invariant
