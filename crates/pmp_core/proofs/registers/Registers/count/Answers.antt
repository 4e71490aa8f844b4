use Rattle.std.proofs.Common.{length, sym, ap, ◌∙◌}
use Rattle.pmp_core.specs.declared.hart.Profile.{Profile}
use Rattle.pmp_core.specs.RegisterFile.{RegisterFile}
use Rattle.pmp_core.proofs.Restored.{length_in}
use Rattle.pmp_core.proofs.Saved.{restored_legal}
use Rattle.pmp_core.proofs.registers.Registers.count.Goals as goal

pub returns-clause-count : goal.returns-clause-count
returns-clause-count c = c.from.ensures ∙ c.entries.ensures.count
    ∙ ap (λ (p : Profile). p.entries) c.self.invariant ∙ sym (length_in c.self.inside.numbers.now)
    ∙ ap (λ (f : RegisterFile). length f.entries) c.self.view_is

pub returns-clause-legal : goal.returns-clause-legal
returns-clause-legal c = rw (← c.self.view_is) (restored_legal c.self.inside.numbers.now)
