use Rattle.pmp_core.proofs.Saved.{restored_legal}
use Rattle.pmp_core.proofs.register_file.RegFile.registers.Goals as goal

pub returns-clause-legal : goal.returns-clause-legal
returns-clause-legal c = rw (← c.self.view_is) (restored_legal c.self.inside.numbers)
