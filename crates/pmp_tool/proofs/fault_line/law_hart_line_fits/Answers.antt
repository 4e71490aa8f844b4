use Rattle.pmp_tool.proofs.LineLengths.{hart_line_fits}
use Rattle.pmp_tool.proofs.fault_line.law_hart_line_fits.Goals as goal

pub returns : goal.returns
returns c = hart_line_fits
