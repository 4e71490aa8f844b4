use Rattle.std.proofs.Common.{◌≡◌, ap, ◌∙◌}
use Rattle.pmp_core.specs.RegisterFile.{RegisterFile, reset_file}
use Rattle.pmp_core.proofs.Legal.{reset_legal}
use Rattle.pmp_core.proofs.register_file.RegFile.reset_again.Goals as goal
use Rattle.pmp_core.proofs.register_file.RegFile.reset_again.Goals.{After-reset_on}

is : (c : After-reset_on) → c.reset_on.result ≡ reset_file c.args.self.now.profile
is c = c.reset_on.ensures ∙ ap reset_file (c.hart-hart.ensures
    ∙ ap (λ (f : RegisterFile). f.profile) c.registers.ensures.same)

pub returns-clause-legal : goal.returns-clause-legal
returns-clause-legal c = rw (is (goal.at.returns-clause-legal c).After-reset_on)
    (reset_legal c.args.self.now.profile c.registers.ensures.legal.profile)
