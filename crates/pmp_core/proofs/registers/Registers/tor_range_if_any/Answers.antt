use Rattle.std.proofs.Common.{◌∙◌, ap}
use Rattle.pmp_core.specs.declared.configuration.AddressMatching.{AddressMatching}
use Rattle.pmp_core.specs.Ranges.{range_as, range_on}
use Rattle.pmp_core.proofs.registers.Registers.tor_range_if_any.Goals as goal

pub returns-then-eq-clause-tor : goal.returns-then-eq-clause-tor
unfolding range_on
returns-then-eq-clause-tor c = λ _.
    let file = c.args.self.now in
    c.range_by.ensures
    ∙ ap (λ (m : AddressMatching). range_as file.profile file.entries m c.args.index) c.matching-matching.ensures
