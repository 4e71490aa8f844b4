use Rattle.std.proofs.Common.{◌≡◌, ◌≢◌, ℕ, Bool, true, false, ◌||◌, refl, sym, ap, ◌∙◌, inl, inr}
use Rattle.std.proofs.lemmas.Bool.{cases_Bool, not-false}
use Rattle.pmp_core.specs.declared.csr.Csr.TheVariants.{Mseccfg}
use Rattle.pmp_core.specs.declared.event.Event.TheVariants.{Write}
use Rattle.pmp_core.specs.declared.mseccfg.MseccfgFields.{MseccfgFields}
use Rattle.pmp_core.specs.declared.saved_registers.SavedRegisters.{SavedRegisters}
use Rattle.pmp_core.specs.declared.hart.Profile.{Profile}
use Rattle.pmp_core.specs.Mseccfg.{mseccfg_value}
use Rattle.pmp_core.specs.RegisterFile.{RegisterFile}
use Rattle.pmp_core.specs.RegisterWrite.{security_written, written}
use Rattle.pmp_core.specs.SavedRegisters.{restored_file, saved_registers}
use Rattle.pmp_core.specs.WriteReasons.{reasons_of}
use Rattle.pmp_core.proofs.Legal.{step_legal}
use Rattle.pmp_core.proofs.Restored.{mseccfg_in, profile_in}
use Rattle.pmp_core.proofs.Saved.{restored_legal, restored_saved}
use Rattle.pmp_core.proofs.Writes.{mseccfg_restored, mseccfg_saved}
use Rattle.pmp_core.proofs.saved_registers.SavedRegisters.write_mseccfg.Goals as goal
use Rattle.pmp_core.proofs.saved_registers.SavedRegisters.write_mseccfg.Goals.{Else-reads-value}
use Rattle.pmp_core.proofs.saved_registers.SavedRegisters.write_mseccfg.Goals.{
  then-new+then-not-old,
  else-new,
  else-new-via-then-new+else-not-old,
  else-new-via-else-new,
}

module _ (c : Else-reads-value) where
  abbrev file : RegisterFile
  file = restored_file c.args.self.now

  abbrev wanted : MseccfgFields
  wanted = security_written file c.args.value

  old_is : c.fields-old.result ≡ file.mseccfg
  old_is = c.fields-old.ensures ∙ ap (λ (f : RegisterFile). f.mseccfg) c.with-registers.ensures

  new_is : c.fields_after-new.result ≡ wanted
  new_is = c.fields_after-new.ensures ∙ ap (λ (f : RegisterFile). security_written f c.args.value) c.with-registers.ensures

  reads_is : c.value-reads.result ≡ mseccfg_value wanted
  reads_is = c.value-reads.ensures ∙ ap mseccfg_value new_is

  differs : wanted ≢ file.mseccfg
  differs same = c.if-reads-value.false (reads_is ∙ ap mseccfg_value (same ∙ sym old_is) ∙ sym c.value.ensures)

  -- the hart has mseccfg
  has : file.profile.has_smepmp ≡ true
  has = elim (cases_Bool file.profile.has_smepmp) [
    | inl is ↦ is
    | inr none ↦ absurd (differs (rw none refl))
  ]

either : (one other : Bool) → (one || other) ≡ false → one ≡ false
either true other e = absurd cc
either false other e = refl

stays : (file : RegisterFile) (value : ℕ) → file.profile.has_smepmp ≡ true
    → (security_written file value).mml ≡ false → file.mseccfg.mml ≡ false
stays file value has off = either file.mseccfg.mml _ (rw has at off)

pub returns : goal.returns
returns c =
    let e = (goal.at.returns c).Else-reads-value in
    let before = c.args.self.now in
    let after = written (file e) Mseccfg c.args.value in
    let mml : MseccfgFields → Bool = λ m. m.mml in
    let with : SavedRegisters → SavedRegisters = λ s. record s { mseccfg = c.value-reads.result } in
    let saved : (s : SavedRegisters) → s ≡ saved_registers (file e) → with s ≡ saved_registers after =
    λ s same. ap with same ∙ mseccfg_saved (file e) (wanted e) c.value-reads.result (reads_is e) in
    let restored : restored_file (with c.if-new.self) ≡ after = elim c.if-new.branch [
      | then-new+then-not-old w ↦ ap restored_file (saved c.if-new.self (w.self-is ∙ w.canonical.ensures.saved))
          ∙ restored_saved after (step_legal (file e) (restored_legal before) (Write Mseccfg c.args.value))
      | else-new w ↦ ap (λ (s : SavedRegisters). restored_file (with s)) w.self-is
          ∙ mseccfg_restored before (wanted e) c.value-reads.result (reads_is e)
          (ap (λ (p : Profile). p.has_smepmp) (sym (profile_in before)) ∙ has e)
          (elim w.else-new.branch [
            | else-new-via-then-new+else-not-old v ↦ ap mml (sym (new_is e)) ∙ v.if-new.true
                ∙ sym (not-false _ v.if-not-old.false) ∙ ap mml (old_is e ∙ mseccfg_in before)
            | else-new-via-else-new v ↦
                let off = ap mml (sym (new_is e)) ∙ v.if-new.false in
                off ∙ sym (stays (file e) c.args.value (has e) off) ∙ ap mml (mseccfg_in before)
          ])
    ] in
    let as_saved : saved_registers (file e) ≡ before → c.if-new.self ≡ saved_registers (file e) = λ canonical.
    elim c.if-new.branch [
      | then-new+then-not-old w ↦ w.self-is ∙ w.canonical.ensures.saved
      | else-new w ↦ w.self-is ∙ sym canonical
    ] in
    record {
      stored = record {
        file = restored;
        canonical = λ canonical. ap saved_registers restored ∙ sym (saved c.if-new.self (as_saved canonical));
        same = λ never. absurd cc;
        changed = λ _ same. differs e (ap (λ (f : RegisterFile). f.mseccfg) (sym restored ∙ same));
      };
      reasons = c.reasons_where-reasons.ensures
          ∙ ap (λ (f : RegisterFile). reasons_of f Mseccfg c.args.value) c.with-registers.ensures;
    }
