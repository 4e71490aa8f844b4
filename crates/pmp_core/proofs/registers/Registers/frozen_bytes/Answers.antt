use Rattle.std.proofs.Common.{◌∙◌, ap, not, sym, true, ◌≡◌, ◌&&◌}
use Rattle.std.proofs.Math.Bool.{and-true}
use Rattle.pmp_core.specs.declared.mseccfg.MseccfgFields.{MseccfgFields}
use Rattle.pmp_core.specs.Bytes.{byte}
use Rattle.pmp_core.specs.Configuration.{bit_of, configuration_of}
use Rattle.pmp_core.proofs.registers.Registers.frozen_bytes.Goals as goal

pub returns-else-fields-clause-bytes : goal.returns-else-fields-clause-bytes
returns-else-fields-clause-bytes c j near =
    let locked = (configuration_of (byte c.args.word j)).locked in
    let free : not c.args.self.now.mseccfg.rlb ≡ true =
    ap (λ (m : MseccfgFields). not m.rlb) (sym c.fields.ensures) ∙ ap not c.if-fields.false in
    c.locked.ensures.bytes j near ∙ ap bit_of (sym (and-true locked) ∙ ap (λ b. locked && b) (sym free))
