use Rattle.pmp_tool.proofs.LineLengths.{note_fits}
use Rattle.pmp_tool.proofs.note.law_note_fits.Goals as goal

pub returns : goal.returns
returns c = note_fits
