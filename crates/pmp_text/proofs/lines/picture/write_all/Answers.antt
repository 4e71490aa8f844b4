use Rattle.std.proofs.Common.{◌∙◌, ◌++◌, ℕ, length, refl}
use Rattle.std.proofs.lemmas.Result.{on_err_weaker, on_ok_weaker}
use Rattle.std.specs.Prelude.{is_some}
use Rattle.pmp_text.specs.MetNames.{given_names}
use Rattle.pmp_text.specs.Picture.{bands, legend_part, title_part}
use Rattle.pmp_text.specs.declared.lines.picture.TheConstants.{FOOT}
use Rattle.pmp_text.proofs.Picture.{joined, three_appended}
use Rattle.pmp_text.proofs.Prefixes.{on_err, starts_after, starts_before}
use Rattle.pmp_text.proofs.lines.picture.write_all.Goals as goal

pub returns-clause-ok : goal.returns-clause-ok
returns-clause-ok g c =
    let file = c.args.drawing.file.now in
    let names = given_names c.args.drawing.names in
    let runs = c.args.runs.now in
    let top = title_part c.args.drawing.publications (is_some names) (length runs) in
    let legend = legend_part file c.args.drawing.publications (is_some names) in
    on_ok_weaker c.append.result
    (λ last. (
      top ++ (legend ++ (bands file names runs ++ FOOT.now)),
      record { runs = runs; runs_are = c.requires.runs; drawn = refl },
      joined _ _ _ top _ c.in_ok-write_title.ensures.ok
          (three_appended _ _ _ _ legend (bands file names runs) FOOT.now c.in_ok-write_legend.ensures.ok
          c.in_ok-write_bands.ensures.ok last),
    ))
    (rw c.as_bytes.ensures.value at c.append.ensures.ok)

pub returns-in_err-write_legend-clause-err : goal.returns-in_err-write_legend-clause-err
returns-in_err-write_legend-clause-err g c =
    on_err _ (starts_after _ _ _ _ c.in_ok-write_title.ensures.ok c.in_err-write_legend.ensures.err)

pub returns-in_err-write_bands-clause-err : goal.returns-in_err-write_bands-clause-err
returns-in_err-write_bands-clause-err g c =
    on_err _ (starts_before _ _ _ _ c.in_ok-write_title.ensures.ok
    (starts_before _ _ _ _ c.in_ok-write_legend.ensures.ok c.in_err-write_bands.ensures.err))

pub returns-clause-err : goal.returns-clause-err
returns-clause-err g c =
    on_err_weaker c.append.result (λ last. starts_before _ _ _ _ c.in_ok-write_title.ensures.ok
    (starts_before _ _ _ _ c.in_ok-write_legend.ensures.ok
    (starts_after _ _ _ _ c.in_ok-write_bands.ensures.ok last))) c.append.ensures.err
