use Rattle.pmp_tool.proofs.LineLengths.{line_fits}
use Rattle.pmp_tool.proofs.fault_line.law_line_fits.Goals as goal

pub returns : goal.returns
returns c = line_fits
