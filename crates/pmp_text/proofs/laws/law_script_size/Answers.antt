use Rattle.pmp_text.proofs.Bounds.{size_at_most}
use Rattle.pmp_text.proofs.laws.law_script_size.Goals as goal

pub returns : goal.returns
returns c = size_at_most
