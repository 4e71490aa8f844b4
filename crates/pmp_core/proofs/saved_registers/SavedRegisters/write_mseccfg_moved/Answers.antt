use Rattle.std.proofs.Common.{◌≡◌, ◌∙◌, refl, sym, ap}
use Rattle.std.proofs.lemmas.Bool.{eq-eqb, ne_eqb}
use Rattle.pmp_core.specs.declared.csr.Csr.TheVariants.{Mseccfg}
use Rattle.pmp_core.specs.Moved.{moved_by}
use Rattle.pmp_core.specs.RegisterFile.{RegisterFile}
use Rattle.pmp_core.specs.RegisterValue.{register_value}
use Rattle.pmp_core.specs.SavedRegisters.{restored_file}
use Rattle.pmp_core.proofs.MovedWrites.{hart_kept}
use Rattle.pmp_core.proofs.saved_registers.SavedRegisters.write_mseccfg_moved.Goals as goal
use Rattle.pmp_core.proofs.saved_registers.SavedRegisters.write_mseccfg_moved.Goals.{After-read}

pub with-now-requires : goal.with-now-requires
with-now-requires c = c.requires ∙ sym (hart_kept c.args.self.now c.write_mseccfg-written.new.self Mseccfg c.args.value
    c.write_mseccfg-written.result c.write_mseccfg-written.ensures)

old_is : (c : After-read) → c.read-old.result ≡ register_value (restored_file c.args.self.now) Mseccfg
old_is c = c.read-old.ensures ∙ ap (λ (f : RegisterFile). register_value f Mseccfg) c.with-before.ensures

now_is : (c : After-read) → c.read.result ≡ register_value (restored_file c.write_mseccfg-written.new.self) Mseccfg
now_is c = c.read.ensures ∙ ap (λ (f : RegisterFile). register_value f Mseccfg) c.with-now.ensures

pub returns-then-read-old-clause-moved : goal.returns-then-read-old-clause-moved
unfolding moved_by
returns-then-read-old-clause-moved c =
    let at = (goal.at.returns-then-read-old-clause-moved c).After-read in
    sym (rw (eq-eqb _ _ (sym (now_is at) ∙ c.if-read-old.true ∙ old_is at)) refl)

pub returns-clause-moved : goal.returns-clause-moved
unfolding moved_by
returns-clause-moved c =
    let at = (goal.at.returns-clause-moved c).After-read in
    sym (rw (ne_eqb _ _ (λ same. c.if-read-old.false (now_is at ∙ same ∙ sym (old_is at)))) refl)
