use Rattle.std.proofs.Common.{◌≡◌, Bool, true, false, slice_index, refl, sym, ap, ◌∙◌}
use Rattle.pmp_core.specs.Entry.{Entry}
use Rattle.pmp_core.specs.declared.mseccfg.MseccfgFields.{MseccfgFields}
use Rattle.pmp_core.specs.Configuration.{Configuration, configuration_of}
use Rattle.pmp_core.specs.Grain.{selectable}
use Rattle.pmp_core.specs.declared.hart.Profile.{Profile}
use Rattle.pmp_core.specs.RegisterFile.{RegisterFile, reset_entry}
use Rattle.pmp_core.specs.RegisterWrite.{admitted, without_reserved}
use Rattle.pmp_core.specs.SavedRegisters.{fields_in, hart_in}
use Rattle.pmp_core.proofs.Restored.{entry_seen, mseccfg_in, near}
use Rattle.pmp_core.proofs.registers.Registers.configuration.Goals as goal
use Rattle.pmp_core.proofs.registers.Registers.configuration.Goals.{then-fields, else-fields}

pub bounds-self-inside-index : goal.bounds-self-inside-index
bounds-self-inside-index c = near _ _ c.self.view_is c.args.index c.requires

on : (mml : Bool) (old new : Configuration) → mml ≡ true → new ≡ admitted mml true old new
on mml old new is = rw is refl

off : (mml : Bool) (old new : Configuration) → mml ≡ false → without_reserved new ≡ admitted mml true old new
off mml old new is = rw is refl

pub returns : goal.returns
returns c =
    let saved = c.self.inside.numbers.now in
    let old = reset_entry.configuration in
    let new = configuration_of (slice_index saved.configurations c.args.index) in
    let fields : c.fields.result ≡ fields_in saved =
    c.fields.ensures ∙ ap (λ (f : RegisterFile). f.mseccfg) (sym c.self.view_is) ∙ mseccfg_in saved in
    let mml : (b : Bool) → c.fields.result.mml ≡ b → (fields_in saved).mml ≡ b =
    λ b is. ap (λ (m : MseccfgFields). m.mml) (sym fields) ∙ is in
    let admitted_is : c.if-fields.admitted ≡ admitted (fields_in saved).mml true old new =
    elim c.if-fields.branch [
      | then-fields w ↦ w.admitted-is ∙ c.from_byte-configuration.ensures ∙ on _ old new (mml true w.if-fields.true)
      | else-fields w ↦ w.admitted-is ∙ w.without_reserved-admitted.ensures
          ∙ ap without_reserved c.from_byte-configuration.ensures ∙ off _ old new (mml false w.if-fields.false)
    ] in
    c.selectable.ensures ∙ ap (λ (p : Profile). selectable p.grain c.if-fields.admitted) c.self.invariant
    ∙ ap (selectable (hart_in saved).grain) admitted_is
    ∙ ap (λ (e : Entry). e.configuration) (entry_seen _ _ c.self.view_is c.args.index c.requires)
