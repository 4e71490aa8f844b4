use Rattle.std.proofs.Common.{◌++◌, ◌∷◌, [], codes}
use Rattle.std.proofs.lemmas.Result.{on_err_weaker, on_ok_weaker}
use Rattle.pmp_text.specs.MetNames.{given_names}
use Rattle.pmp_text.specs.Picture.{band, names_text, strip_text}
use Rattle.pmp_text.proofs.Picture.{three_appended}
use Rattle.pmp_text.proofs.Prefixes.{on_err, starts_after, starts_before, starts_same}
use Rattle.pmp_text.proofs.lines.picture.write_band.Goals as goal

pub returns-clause-ok : goal.returns-clause-ok
unfolding band
returns-clause-ok g c =
    let run = c.args.run.now in
    on_ok_weaker c.append.result (λ last. three_appended _ _ _ _
    (strip_text c.args.drawing.file.now c.args.place run)
    (names_text (given_names c.args.drawing.names) run.first run.last) (codes "</g>" ++ 10 ∷ [])
    c.in_ok-write_strip.ensures.ok c.in_ok-append_names.ensures.ok last)
    (rw c.as_bytes.ensures.value at c.append.ensures.ok)

pub returns-in_err-write_strip-clause-err : goal.returns-in_err-write_strip-clause-err
returns-in_err-write_strip-clause-err g c = on_err _ (starts_same _ _ c.in_err-write_strip.ensures.err)

pub returns-in_err-append_names-clause-err : goal.returns-in_err-append_names-clause-err
returns-in_err-append_names-clause-err g c =
    on_err _ (starts_before _ _ _ _ c.in_ok-write_strip.ensures.ok c.in_err-append_names.ensures.err)

pub returns-clause-err : goal.returns-clause-err
returns-clause-err g c =
    on_err_weaker c.append.result (λ last. starts_before _ _ _ _ c.in_ok-write_strip.ensures.ok
    (starts_after _ _ _ _ c.in_ok-append_names.ensures.ok last)) c.append.ensures.err
