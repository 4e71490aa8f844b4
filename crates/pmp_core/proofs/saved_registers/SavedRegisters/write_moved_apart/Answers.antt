use Rattle.std.proofs.Common.{refl}
use Rattle.pmp_core.specs.Moved.{moved_by}
use Rattle.pmp_core.proofs.saved_registers.SavedRegisters.write_moved_apart.Goals as goal

pub returns-in-Mseccfgh-clause-moved : goal.returns-in-Mseccfgh-clause-moved
unfolding moved_by
returns-in-Mseccfgh-clause-moved c = rw c.in-Mseccfgh.is refl
