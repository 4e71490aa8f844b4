use Rattle.std.proofs.Common.{◌++◌, codes}
use Rattle.pmp_text.specs.Picture.{background, title, title_part}
use Rattle.pmp_text.specs.declared.lines.picture.head.TheConstants.{STYLE}
use Rattle.pmp_text.proofs.Picture.{between}
use Rattle.pmp_text.proofs.lines.picture.write_title.Goals as goal

pub returns-clause-ok : goal.returns-clause-ok
unfolding title_part
returns-clause-ok g c = rw (
  ← c.width_word-width.ensures,
  between (codes "<title>") (title c.args.drawing.publications) _ (STYLE.now ++ background c.width_word-width.result.now),
) c.append_text.ensures.ok
