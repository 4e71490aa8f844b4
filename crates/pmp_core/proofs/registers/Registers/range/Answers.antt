use Rattle.std.proofs.Common.{◌∙◌, ap}
use Rattle.pmp_core.specs.declared.configuration.AddressMatching.{AddressMatching}
use Rattle.pmp_core.specs.Ranges.{range_as, range_on}
use Rattle.pmp_core.proofs.registers.Registers.range.Goals as goal

pub returns : goal.returns
unfolding range_on
returns c =
    let file = c.args.self.now in
    c.range_by.ensures ∙ ap (λ (m : AddressMatching). range_as file.profile file.entries m c.args.index) c.matching.ensures
