use Rattle.std.proofs.Common.{◌≡◌, ℕ, ◌%◌, slice_index, ap, ◌∙◌, arith}
use Rattle.pmp_core.specs.Entry.{Entry}
use Rattle.pmp_core.specs.Hart.{word_addresses}
use Rattle.pmp_core.specs.SavedRegisters.{restored_entry}
use Rattle.pmp_core.proofs.Restored.{entry_seen, few_bits, near}
use Rattle.pmp_core.proofs.registers.Registers.address.Goals as goal
use Rattle.pmp_core.proofs.registers.Registers.address.Goals.{After-word_addresses-words}

pub offset_bounds-self-inside-index : goal.offset_bounds-self-inside-index
offset_bounds-self-inside-index c = omega (arith, near _ _ c.self.view_is c.args.index c.requires)

pub bounds-self-inside-index : goal.bounds-self-inside-index
bounds-self-inside-index c = near _ _ c.self.view_is c.args.index c.requires

as_restored : (c : After-word_addresses-words)
    → slice_index c.self.inside.numbers.now.addresses c.args.index % c.word_addresses-words.result
    ≡ (restored_entry c.self.inside.numbers.now c.args.index).address
as_restored c = ap (λ (n : ℕ). slice_index c.self.inside.numbers.now.addresses c.args.index % n)
    (c.word_addresses-words.ensures ∙ ap word_addresses c.self.invariant)

pub returns-clause-kept : goal.returns-clause-kept
returns-clause-kept c = as_restored (goal.at.returns-clause-kept c).After-word_addresses-words
    ∙ ap (λ (e : Entry). e.address) (entry_seen _ _ c.self.view_is c.args.index c.requires)

pub returns-clause-most : goal.returns-clause-most
returns-clause-most c = omega (
  arith,
  as_restored (goal.at.returns-clause-most c).After-word_addresses-words,
  few_bits c.self.inside.numbers.now c.args.index,
)
