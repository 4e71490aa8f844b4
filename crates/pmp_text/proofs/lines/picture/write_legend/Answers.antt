use Rattle.std.proofs.Common.{◌++◌, codes}
use Rattle.pmp_text.specs.Picture.{legend_part, settings, title}
use Rattle.pmp_text.specs.declared.lines.picture.head.TheConstants.{BANDS, LEGEND}
use Rattle.pmp_text.proofs.Picture.{between}
use Rattle.pmp_text.proofs.lines.picture.write_legend.Goals as goal

pub returns-clause-ok : goal.returns-clause-ok
unfolding legend_part
returns-clause-ok g c = rw (
  ← c.names_head-names.ensures,
  between (codes "<text class='large' x='16' y='36'>") (title c.args.drawing.publications) _
      (settings c.args.drawing.file.now.mseccfg ++ (LEGEND.now ++ (c.names_head-names.result.now ++ BANDS.now))),
  ← c.switches-mml.ensures,
  ← c.switch_word-mml.ensures,
  ← c.switch_word-mmwp.ensures,
  ← c.switch_word-rlb.ensures,
) c.append_text.ensures.ok
