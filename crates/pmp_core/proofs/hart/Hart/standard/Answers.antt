use Rattle.std.proofs.Common.{sym, ◌∙◌, ap}
use Rattle.pmp_core.specs.SavedRegisters.{saved_hart}
use Rattle.pmp_core.proofs.HartNumbers.{saved_64, saved_other}
use Rattle.pmp_core.proofs.hart.Hart.standard.Goals as goal

pub returns-then-number-eq64 : goal.returns-then-number-eq64
returns-then-number-eq64 c = c.of.ensures ∙ sym (ap saved_hart c.if-number-eq64.true ∙ saved_64)

pub returns-else-number-eq64 : goal.returns-else-number-eq64
returns-else-number-eq64 c =
    c.of-else-number-eq64.ensures ∙ sym (saved_other c.args.number c.if-number-eq1.false c.if-number-eq64.false)
