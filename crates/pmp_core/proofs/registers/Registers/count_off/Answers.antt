use borrow.Author.Tests.{tests}
use Rattle.std.proofs.Common.{rules, ◌≡◌, ℕ, ◌+◌, ◌-◌, Bool, true, slice_index, sym, ap, ◌∙◌, inl, inr, arith}
use Rattle.std.proofs.lemmas.Bool.{cases_eq, cases_lt}
use Rattle.pmp_core.specs.declared.configuration.AddressMatching.TheVariants.{Off}
use Rattle.pmp_core.specs.Configuration.{Configuration, configuration_of}
use Rattle.pmp_core.specs.Entry.{Entry}
use Rattle.pmp_core.specs.Grain.{selectable}
use Rattle.pmp_core.specs.RegisterFile.{reset_entry}
use Rattle.pmp_core.specs.RegisterWrite.{admitted}
use Rattle.pmp_core.specs.SavedRegisters.{fields_in, hart_in}
use Rattle.pmp_core.proofs.Restored.{entry_past, entry_seen}
use Rattle.pmp_core.proofs.registers.Registers.count_off.Goals as goal

stays_off : (grain : ℕ) (mml : Bool) (old new : Configuration) → new.matching ≡ Off
    → (selectable grain (admitted mml true old new)).matching ≡ Off
stays_off grain mml old new off = search (rules, tests)

pub returns-clause-off : goal.returns-clause-off
returns-clause-off c = λ i low high.
    let file = c.args.self.now in
    let saved = c.self.inside.numbers.now in
    let first = c.args.first in
    let place : first + (i - first) ≡ i = omega arith in
    elim (cases_eq i first) [
      | inl here ↦ rw here c.requires.off
      | inr later ↦
          let raw : (configuration_of (slice_index saved.configurations i)).matching ≡ Off =
          ap (λ (b : ℕ). (configuration_of b).matching) (ap (slice_index saved.configurations) (sym place)
          ∙ sym (c.eight_from.ensures (i - first) (omega (arith, low, high, later, c.max.ensures, c.count_off.ensures.most))))
          ∙ c.count_off.ensures.off (i - first) (omega (arith, low, high, later, c.max.ensures)) in
          elim (cases_lt i c.count-count.result) [
            | inl inside ↦ ap (λ (e : Entry). e.configuration.matching)
                (sym (entry_seen saved file c.self.view_is i (omega (arith, c.count-count.ensures.count))))
                ∙ stays_off (hart_in saved).grain (fields_in saved).mml reset_entry.configuration _ raw
            | inr past ↦ ap (λ (e : Entry). e.configuration.matching) (entry_past file i (omega (arith, c.count-count.ensures.count)))
          ]
    ]
