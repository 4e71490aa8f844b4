use Rattle.std.proofs.Common.{◌≡◌, sym, ◌∙◌}
use Rattle.pmp_map.proofs.Naming.{mode_once}
use Rattle.pmp_c.proofs.tilvenka_pmp_rights.Goals as goal

pub returns-in-Some-clause-rights : goal.returns-in-Some-clause-rights
returns-in-Some-clause-rights c = λ named range is_unit.
    let same : named ≡ c.in-Some.mode = mode_once named c.in-Some.mode (range.mode_is ∙ sym c.in-Some.ensures.some) in
    rw same (c.rights.result, c.rights.ensures is_unit, c.rights_number.ensures)
