use Rattle.std.proofs.Common.{sym, ap, ◌∙◌}
use Rattle.pmp_core.specs.RegisterFile.{RegisterFile}
use Rattle.pmp_core.proofs.Restored.{profile_in}
use Rattle.pmp_core.proofs.registers.Registers.hart.Goals as goal

pub returns : goal.returns
returns c = c.self.invariant ∙ sym (profile_in c.self.inside.numbers.now)
    ∙ ap (λ (f : RegisterFile). f.profile) c.self.view_is
