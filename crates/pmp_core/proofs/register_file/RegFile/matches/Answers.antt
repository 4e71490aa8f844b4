use Rattle.std.proofs.Common.{◌≡◌, ◌↔◌, IsTrue, ap, ◌∙◌}
use Rattle.pmp_core.specs.RegisterFile.{RegisterFile}
use Rattle.pmp_core.specs.Ranges.{IsInRange, range_of}
use Rattle.pmp_core.proofs.Legal.{legal_addresses}
use Rattle.pmp_core.proofs.Matches.{matches_range}
use Rattle.pmp_core.proofs.register_file.RegFile.matches.Goals as goal

pub returns : goal.returns
returns c =
    let file = c.args.self.now in
    let range : c.range.result ≡ range_of file c.args.entry = c.range.ensures
    ∙ ap (λ (f : RegisterFile). range_of f c.from.result) c.registers.ensures.same ∙ ap (range_of file) c.from.ensures in
    let tested : IsTrue c.contains.result ↔ IsInRange (range_of file c.args.entry) c.args.byte =
    rw range at c.contains.ensures in
    let meant = matches_range file c.args.entry c.args.byte (legal_addresses file c.registers.ensures.legal) in
    (λ h. meant.1 (tested.0 h), λ m. tested.1 (meant.0 m))
