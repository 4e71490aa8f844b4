use Rattle.pmp_text.specs.Picture.{strip_text}
use Rattle.pmp_text.proofs.RunLines.{text_of_perms}
use Rattle.pmp_text.proofs.lines.picture.write_strip.Goals as goal

pub returns-clause-ok : goal.returns-clause-ok
unfolding strip_text
returns-clause-ok g c = rw (
  c.new-first.ensures,
  c.new-last.ensures,
  c.of-size.ensures,
  c.lock_sign-sign.ensures,
  c.of_owner-rights.ensures,
  c.registers.ensures.same,
  text_of_perms,
  text_of_perms,
) at c.append_line.ensures.ok
