use Rattle.std.proofs.Common.{◌≡◌, ℕ, List, sym, ap, ◌∙◌}
use Rattle.std.proofs.lemmas.Bool.{and_parts, eqb-true}
use lib.Pointwise.{bytes_decides}
use Rattle.pmp_core.specs.declared.saved_registers.SavedRegisters.{SavedRegisters}
use Rattle.pmp_core.specs.SavedRegisters.{restored_file}
use Rattle.pmp_text.proofs.lines.script.is_same.Goals as goal

same_numbers : (one other : SavedRegisters) → one.addresses ≡ other.addresses
    → one.configurations ≡ other.configurations → one.mseccfg ≡ other.mseccfg → one.entries ≡ other.entries
    → one ≡ other
same_numbers one other addresses configurations mseccfg entries =
    ap (λ (a : List ℕ). record one { addresses = a }) addresses
    ∙ ap (λ (c : List ℕ). record one { addresses = other.addresses; configurations = c }) configurations
    ∙ ap (λ (m : ℕ). record other { mseccfg = m; entries = one.entries }) mseccfg
    ∙ ap (λ (n : ℕ). record other { entries = n }) entries

pub returns : goal.returns
returns c = λ same.
    let one = c.save.result in
    let other = c.save-2.result in
    let first = and_parts _ _ (sym c.eq.ensures ∙ same) in
    let second = and_parts _ _ first.1 in
    let third = and_parts _ _ second.1 in
    let numbers = same_numbers one other ((bytes_decides one.addresses other.addresses).0 first.0)
    ((bytes_decides one.configurations other.configurations).0 second.0) (eqb-true _ _ third.0) (eqb-true _ _ third.1) in
    sym c.save.ensures.restored ∙ ap restored_file numbers ∙ c.save-2.ensures.restored
