use Rattle.std.proofs.Common.{◌≡◌, ◌&&◌, ◌==◌, ◌∙◌, ℕ, Bool, not, refl, sym, ap}
use Rattle.std.proofs.lemmas.Bool.{eq-eqb}
use Rattle.pmp_core.specs.declared.csr.Csr.TheVariants.{Addr}
use Rattle.pmp_core.specs.declared.configuration.AddressMatching.{AddressMatching}
use Rattle.pmp_core.specs.declared.write_reasons.WriteReason.TheVariants.{Frozen, Tor, Reserved, Lockdown, Grain}
use Rattle.pmp_core.specs.Grain.{read_address}
use Rattle.pmp_core.specs.RegisterFile.{entry_at, is_frozen}
use Rattle.pmp_core.specs.RegisterWrite.{is_address_frozen}
use Rattle.pmp_core.specs.WriteReasons.{is_changed, is_too_fine}
use Rattle.pmp_core.proofs.FlaggedReasons.{none_marked, own_mark}
use Rattle.pmp_core.proofs.registers.Registers.address_reasons.Goals as goal

pub returns : goal.returns
returns c =
    let file = c.args.self.now in
    let k = c.args.register in
    let value = c.args.value in
    let at : c.from-first.result ≡ k = c.from-first.ensures in
    let mode : ℕ → AddressMatching = λ i. (entry_at file.entries i).configuration.matching in
    let kept : c.address.result ≡ (entry_at file.entries k).address =
    c.address.ensures.kept ∙ ap (λ i. (entry_at file.entries i).address) at in
    let own : (b : Bool) → b ≡ ((k == k) && b) = λ b. ap (λ here. here && b) (sym (eq-eqb k k refl)) in
    let frozen : c.is_frozen-frozen.result ≡ is_frozen file k = c.is_frozen-frozen.ensures ∙ ap (is_frozen file) at in
    let low : c.is_address_frozen.result ≡ is_address_frozen file k =
    c.is_address_frozen.ensures ∙ ap (is_address_frozen file) at in
    let changed : not (value == c.reads.result) ≡ is_changed file (Addr k) value k =
    ap (λ n. not (value == n)) (c.reads.ensures ∙ (λ p. read_address file.profile.grain (mode (at p)) (kept p))) ∙ own _ in
    let fine : not (c.reads-2.result == value) ≡ is_too_fine file (Addr k) value k =
    ap (λ n. not (n == value)) (c.reads-2.ensures ∙ ap (λ i. read_address file.profile.grain (mode i) value) at) ∙ own _ in
    rw at (record {
      frozen = own_mark Frozen file k value c.from.result _ c.requires c.from.ensures (λ p. frozen p && changed p);
      tor = own_mark Tor file k value c.from-2.result _ c.requires c.from-2.ensures
          (λ p. (not (frozen p) && low p) && changed p);
      reserved = none_marked Reserved file (Addr k) value k (λ i inside. refl);
      lockdown = none_marked Lockdown file (Addr k) value k (λ i inside. refl);
      grain = own_mark Grain file k value c.from-3.result _ c.requires c.from-3.ensures fine;
    })
