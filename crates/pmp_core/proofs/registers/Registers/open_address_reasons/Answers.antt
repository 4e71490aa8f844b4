use Rattle.std.proofs.Common.{◌≡◌, ◌/◌, ◌==◌, ◌∙◌, ℕ, [], ◌∷◌, false, not, sym, ap}
use Rattle.pmp_core.specs.declared.write_reasons.Reasons.{Reasons}
use Rattle.pmp_core.specs.Grain.{read_address}
use Rattle.pmp_core.specs.RegisterFile.{entry_at}
use Rattle.pmp_core.specs.Hart.{word_addresses}
use Rattle.pmp_core.specs.WriteReasons.{bits_of}
use Rattle.pmp_core.proofs.EachReason.{open_reasons}
use Rattle.pmp_core.proofs.registers.Registers.open_address_reasons.Goals as goal

pub returns : goal.returns
returns c =
    let file = c.args.self.now in
    let k = c.args.register in
    let value = c.args.value in
    let words : c.word_addresses.result ≡ word_addresses file.profile =
    c.word_addresses.ensures ∙ ap word_addresses c.hart.ensures in
    let reads : c.reads.result ≡ read_address file.profile.grain (entry_at file.entries k).configuration.matching value =
    c.reads.ensures ∙ ap (λ (i : ℕ). read_address file.profile.grain (entry_at file.entries i).configuration.matching value)
    c.from-index.ensures in
    ap (λ (n : ℕ). let reasons : Reasons = record { 0 = n } in reasons) (c.of.ensures.bits
    ∙ (λ i. bits_of (false ∷ not (value / words i == 0) ∷ false ∷ false ∷ false ∷ false ∷ false ∷ false
    ∷ not (reads i == value) ∷ []))
    ∙ sym (open_reasons file k value c.requires.inside c.requires.free))
