use borrow.Author.Tests.{tests}
use Rattle.std.proofs.Common.{rules, ◌≡◌, ℕ, Bool, true, slice_index, sym, ap, ◌∙◌}
use Rattle.pmp_core.specs.Configuration.{Configuration, configuration_of}
use Rattle.pmp_core.specs.Entry.{Entry}
use Rattle.pmp_core.specs.Grain.{selectable}
use Rattle.pmp_core.specs.declared.hart.Profile.{Profile}
use Rattle.pmp_core.specs.RegisterFile.{reset_entry}
use Rattle.pmp_core.specs.RegisterWrite.{admitted}
use Rattle.pmp_core.specs.SavedRegisters.{fields_in, hart_in}
use Rattle.pmp_core.specs.declared.configuration.AddressMatching.{AddressMatching}
use Rattle.pmp_core.proofs.Restored.{entry_seen, near}
use Rattle.pmp_core.proofs.registers.Registers.raw.Goals as goal

pub bounds-self-inside-index : goal.bounds-self-inside-index
bounds-self-inside-index c = near _ _ c.self.view_is c.args.index c.requires

abbrev Kept : Configuration → Bool × AddressMatching
Kept c = (c.locked, c.matching)

kept : (grain : ℕ) (mml : Bool) (old new : Configuration)
    → Kept (selectable grain (admitted mml true old new)) ≡ Kept (selectable grain new)
kept grain mml old new = search (rules, tests)

pub returns : goal.returns
returns c =
    let saved = c.self.inside.numbers.now in
    let old = reset_entry.configuration in
    let mml = (fields_in saved).mml in
    let new = configuration_of (slice_index saved.configurations c.args.index) in
    let same = ap Kept (c.selectable.ensures
    ∙ ap (λ (p : Profile). selectable p.grain c.from_byte.result) c.self.invariant
    ∙ ap (selectable (hart_in saved).grain) c.from_byte.ensures)
    ∙ sym (kept (hart_in saved).grain mml old new)
    ∙ ap (λ (e : Entry). Kept e.configuration) (entry_seen _ _ c.self.view_is c.args.index c.requires) in
    record { locked = ap (λ p. p.0) same; matching = ap (λ p. p.1) same }
