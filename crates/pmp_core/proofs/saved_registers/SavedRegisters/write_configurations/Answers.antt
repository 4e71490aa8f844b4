use Rattle.std.proofs.Common.{◌≡◌, ◌≢◌, ◌-◌, ◌*◌, length, min, refl, sym, ap, ◌∙◌, arith}
use Rattle.pmp_core.specs.declared.csr.Csr.TheVariants.{Cfg}
use Rattle.pmp_core.specs.declared.hart.Profile.{Profile}
use Rattle.pmp_core.specs.Hart.{bytes_in}
use Rattle.pmp_core.specs.RegisterFile.{RegisterFile}
use Rattle.pmp_core.specs.RegisterValue.{configuration_word, register_value}
use Rattle.pmp_core.specs.RegisterWrite.{written}
use Rattle.pmp_core.specs.SavedRegisters.{restored_file}
use Rattle.pmp_core.specs.WriteReasons.{reasons_of}
use Rattle.pmp_core.proofs.Restored.{profile_in}
use Rattle.pmp_core.proofs.Saved.{restored_legal}
use Rattle.pmp_core.proofs.Writes.{configurations_canonical, configurations_restored, reads_same}
use Rattle.pmp_core.proofs.saved_registers.SavedRegisters.write_configurations.Goals as goal
use Rattle.pmp_core.proofs.saved_registers.SavedRegisters.write_configurations.Goals.{After-reasons_where-reasons}

abbrev file : After-reasons_where-reasons → RegisterFile
file c = restored_file c.args.self.now

old_is : (c : After-reasons_where-reasons) → c.configuration_word-old.result ≡ register_value (file c) (Cfg c.args.register)
old_is c = c.configuration_word-old.ensures
    ∙ ap (λ (f : RegisterFile). register_value f (Cfg c.args.register)) c.with-registers.ensures

-- the word is what the register reads after the write
word_is : (c : After-reasons_where-reasons) → c.configurations_after-word.result
    ≡ register_value (written (file c) (Cfg c.args.register) c.args.value) (Cfg c.args.register)
word_is c = c.configurations_after-word.ensures
    ∙ ap (λ (f : RegisterFile). register_value (written f (Cfg c.args.register) c.args.value) (Cfg c.args.register))
    c.with-registers.ensures

because : (c : After-reasons_where-reasons)
    → c.reasons_where-reasons.result ≡ reasons_of (file c) (Cfg c.args.register) c.args.value
because c = c.reasons_where-reasons.ensures
    ∙ ap (λ (f : RegisterFile). reasons_of f (Cfg c.args.register) c.args.value) c.with-registers.ensures

pub returns-then-word-old : goal.returns-then-word-old
returns-then-word-old c =
    let r = (goal.at.returns-then-word-old c).After-reasons_where-reasons in
    record {
      stored = record {
        file = reads_same (file r) c.args.register c.args.value (sym (word_is r) ∙ c.if-word-old.true ∙ old_is r);
        canonical = λ canonical. canonical;
        same = λ _. refl;
        changed = λ e. absurd cc;
      };
      reasons = because r;
    }

pub returns : goal.returns
returns c =
    let r = (goal.at.returns c).After-reasons_where-reasons in
    let q = c.args.register in
    let old = c.args.self.now in
    let differs : register_value (written (file r) (Cfg q) c.args.value) (Cfg q) ≢ register_value (file r) (Cfg q) =
    λ same. c.if-word-old.false (word_is r ∙ same ∙ sym (old_is r)) in
    let word : configuration_word (written (file r) (Cfg q) c.args.value) q ≡ c.configurations_after-word.result =
    sym (word_is r) in
    let hart : c.args.hart ≡ (file r).profile = c.requires ∙ sym (profile_in old) in
    let counted : c.bytes_there-count.result ≡ min (length (file r).entries - 4 * q) (bytes_in (file r).profile q) =
    c.bytes_there-count.ensures.count ∙ ap (λ (p : Profile). min (p.entries - 4 * q) (bytes_in p q)) hart
    ∙ ap (λ n. min (n - 4 * q) (bytes_in (file r).profile q)) (sym (restored_legal old).count) in
    let done = rw c.from-first.ensures at c.put_lowest.ensures in
    let is = configurations_restored old c.put_lowest.new.bytes q c.args.value c.configurations_after-word.result
    c.bytes_there-count.result word counted done in
    record {
      stored = record {
        file = is;
        canonical = configurations_canonical old c.put_lowest.new.bytes q c.args.value
            c.configurations_after-word.result c.bytes_there-count.result word counted done (omega arith) (omega arith);
        same = λ e. absurd cc;
        changed = λ _ same. differs (ap (λ (f : RegisterFile). register_value f (Cfg q)) (sym is ∙ same));
      };
      reasons = because r;
    }
