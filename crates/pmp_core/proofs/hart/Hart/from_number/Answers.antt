use Rattle.std.proofs.Common.{◌∙◌, sym}
use Rattle.pmp_core.proofs.HartNumbers.{saved_spelled, saved_unspelled}
use Rattle.pmp_core.proofs.hart.Hart.from_number.Goals as goal

pub returns-in-Some-spelled : goal.returns-in-Some-spelled
returns-in-Some-spelled c =
    let is = c.in-Some-spelled.ensures in is.1 ∙ sym (saved_spelled c.args.number is.0)

pub returns-in-None-spelled : goal.returns-in-None-spelled
returns-in-None-spelled c =
    c.of.ensures ∙ sym (saved_unspelled c.args.number c.in-None.ensures c.in-None-spelled.ensures)
