use Rattle.std.proofs.Common.{◌≡◌, Bool, true, false, refl, sym, ap, ◌∙◌}
use Rattle.pmp_core.specs.declared.saved_registers.SavedRegisters.{SavedRegisters}
use Rattle.pmp_core.specs.declared.hart.Profile.{Profile}
use Rattle.pmp_core.specs.Mseccfg.{mseccfg_fields}
use Rattle.pmp_core.specs.RegisterFile.{RegisterFile, reset_mseccfg}
use Rattle.pmp_core.specs.SavedRegisters.{fields_in, hart_in}
use Rattle.pmp_core.proofs.Restored.{mseccfg_in}
use Rattle.pmp_core.proofs.registers.Registers.fields.Goals as goal

there : (saved : SavedRegisters) → (hart_in saved).has_smepmp ≡ true → mseccfg_fields saved.mseccfg ≡ fields_in saved
there saved has = rw has refl

absent : (saved : SavedRegisters) → (hart_in saved).has_smepmp ≡ false → reset_mseccfg ≡ fields_in saved
absent saved none = rw none refl

has : (hart other : Profile) → hart ≡ other → (result is : Bool) → result ≡ hart.has_smepmp → result ≡ is
    → other.has_smepmp ≡ is
has hart other same result is ensures test =
    ap (λ (p : Profile). p.has_smepmp) (sym same) ∙ sym ensures ∙ test

pub returns-then-has_smepmp : goal.returns-then-has_smepmp
returns-then-has_smepmp c =
    c.from_value.ensures
    ∙ there c.self.inside.numbers.now (has _ _ c.self.invariant _ _ c.has_smepmp.ensures c.if-has_smepmp.true)
    ∙ sym (mseccfg_in c.self.inside.numbers.now) ∙ ap (λ (f : RegisterFile). f.mseccfg) c.self.view_is

pub returns-else-has_smepmp : goal.returns-else-has_smepmp
returns-else-has_smepmp c =
    absent c.self.inside.numbers.now (has _ _ c.self.invariant _ _ c.has_smepmp.ensures c.if-has_smepmp.false)
    ∙ sym (mseccfg_in c.self.inside.numbers.now) ∙ ap (λ (f : RegisterFile). f.mseccfg) c.self.view_is
