use Rattle.std.proofs.Common.{◌≡◌, ℕ, ◌<◌, ◌%◌, false, length, sym, ap, ◌∙◌, arith}
use Rattle.pmp_core.specs.Hart.{word_addresses}
use Rattle.pmp_core.specs.RegisterFile.{RegisterFile, entry_at}
use Rattle.pmp_core.specs.RegisterWrite.{is_address_frozen}
use Rattle.pmp_core.specs.SavedRegisters.{hart_in, restored_file}
use Rattle.pmp_core.proofs.Restored.{profile_in}
use Rattle.pmp_core.specs.declared.csr.Csr.TheVariants.{Addr}
use Rattle.pmp_core.specs.WriteReasons.{reasons_of}
use Rattle.pmp_core.proofs.Writes.{address_canonical, address_changed, address_restored}
use Rattle.pmp_core.proofs.saved_registers.SavedRegisters.write_address.Goals as goal
use Rattle.pmp_core.proofs.saved_registers.SavedRegisters.write_address.Goals.{After-address}

abbrev file : After-address → RegisterFile
file c = restored_file c.args.self.now

inside : (c : After-address) → c.args.register < length (file c).entries
inside c = omega (
  arith,
  c.if-index-count.false,
  c.count.ensures.count,
  c.from-index.ensures,
  ap (λ (f : RegisterFile). length f.entries) c.with-registers.ensures,
)

free : (c : After-address) → is_address_frozen (file c) c.args.register ≡ false
free c = sym (c.if-is_address_frozen.ensures
    ∙ ap (λ (f : RegisterFile). is_address_frozen f c.from-index.result) c.with-registers.ensures
    ∙ ap (is_address_frozen (file c)) c.from-index.ensures)

kept : (c : After-address) → c.args.value % c.word_addresses.result
    ≡ c.args.value % word_addresses (hart_in c.args.self.now)
kept c = ap (λ (n : ℕ). c.args.value % n) (c.word_addresses.ensures ∙ ap word_addresses (c.hart.ensures
    ∙ ap (λ (f : RegisterFile). f.profile) c.with-registers.ensures ∙ profile_in c.args.self.now))

because : (c : After-address) → c.open_address_reasons-reasons.result ≡ reasons_of (file c) (Addr c.args.register) c.args.value
because c = c.open_address_reasons-reasons.ensures
    ∙ ap (λ (f : RegisterFile). reasons_of f (Addr c.args.register) c.args.value) c.with-registers.ensures

pub returns : goal.returns
returns c =
    let a = (goal.at.returns c).After-address in
    let saved = c.args.self.now in
    let i = c.args.register in
    rw c.from-index.ensures (record {
      stored = record {
        file = address_restored saved i c.args.value _ (inside a) (free a) (kept a) (omega arith);
        canonical = address_canonical saved i c.args.value _ (inside a) (free a) (kept a) (omega arith) (omega arith);
        same = λ e. absurd cc;
        changed = λ _. address_changed saved i c.args.value _ (inside a) (free a) (kept a) (omega arith)
            (λ same. c.if-address.false (c.address.ensures.kept
            ∙ ap (λ (f : RegisterFile). (entry_at f.entries c.from-index.result).address) c.with-registers.ensures
            ∙ ap (λ (n : ℕ). (entry_at (file a).entries n).address) c.from-index.ensures ∙ same));
      };
      reasons = because a;
    })
