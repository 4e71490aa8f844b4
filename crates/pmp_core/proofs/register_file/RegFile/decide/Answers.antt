use Rattle.pmp_core.specs.Decision.{IsDecision}
use Rattle.pmp_core.specs.RegisterFile.{RegisterFile}
use Rattle.std.proofs.Common.{subst}
use Rattle.pmp_core.proofs.register_file.RegFile.decide.Goals as goal

pub returns-clause-by_bytes : goal.returns-clause-by_bytes
returns-clause-by_bytes c = subst (λ (f : RegisterFile). IsDecision f c.args.access.now c.decide.result)
    c.registers.ensures.same c.decide.ensures.by_bytes
