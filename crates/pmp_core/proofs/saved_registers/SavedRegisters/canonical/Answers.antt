use Rattle.std.proofs.Common.{◌≡◌, ℕ, true, ◌<◌, ◌≤◌, length, refl, ap, ◌∙◌, arith}
use Rattle.std.proofs.lemmas.List.{get_or-replicate}
use Rattle.pmp_core.specs.Entry.{Entry}
use Rattle.pmp_core.specs.declared.saved_registers.SavedRegisters.{SavedRegisters}
use Rattle.pmp_core.specs.Configuration.{byte_of}
use Rattle.pmp_core.specs.Mseccfg.{mseccfg_value}
use Rattle.pmp_core.specs.RegisterFile.{RegisterFile, reset_entry, entry_at}
use Rattle.pmp_core.specs.SavedRegisters.{hart_number, names_hart, restored_file, saved_registers}
use Rattle.pmp_core.specs.Hart.{IsProfile}
use Rattle.pmp_core.proofs.HartNumbers.{named_number}
use Rattle.pmp_core.proofs.Restored.{entry_past}
use Rattle.pmp_core.proofs.Saved.{filled, filled_more, restored_legal, restored_saved}
use Rattle.pmp_core.proofs.saved_registers.SavedRegisters.canonical.Goals as goal
use Rattle.pmp_core.proofs.saved_registers.SavedRegisters.canonical.Goals.{After-number}

pub loop-place-init : goal.loop-place-init
loop-place-init c = (
  record {
    len = refl;
    done = λ k below. absurd (omega arith);
    rest = λ k from below. get_or-replicate 64 k 0 0 below;
  },
  record {
    len = refl;
    done = λ k below. absurd (omega arith);
    rest = λ k from below. get_or-replicate 64 k 0 0 below;
  },
)

pub loop-place-preserved : goal.loop-place-preserved
loop-place-preserved c =
    let loop = c.loop-place in
    let is = c.of-registers.ensures in
    let inside : loop.place < 64 = omega arith in (
      filled_more _ loop.addresses loop.place _ inside
          (c.address.ensures.kept ∙ ap (λ (f : RegisterFile). (entry_at f.entries loop.place).address) is) loop.invariant.0,
      filled_more _ loop.configurations loop.place _ inside
          (c.byte.ensures ∙ ap byte_of (c.configuration.ensures
          ∙ ap (λ (f : RegisterFile). (entry_at f.entries loop.place).configuration) is)) loop.invariant.1,
    )

named_of : (file : RegisterFile) → IsProfile file.profile → names_hart (saved_registers file).entries ≡ true
unfolding saved_registers
named_of file is = named_number file.profile is

saved : (c : After-number) → (let numbers : SavedRegisters = record {
  addresses = c.loop-place.addresses;
  configurations = c.loop-place.configurations;
  mseccfg = c.value.result;
  entries = c.number.result;
} in numbers ≡ saved_registers (restored_file c.args.self.now))
unfolding saved_registers
saved c =
    let loop = c.loop-place in
    let file = restored_file c.args.self.now in
    let is = c.of-registers.ensures in
    let past : (k : ℕ) → loop.place ≤ k → entry_at file.entries k ≡ reset_entry =
    λ k from. entry_past file k (omega (
      arith,
      c.loop-place-test.false,
      c.count-place-end.ensures.count,
      ap (λ (f : RegisterFile). length f.entries) is,
    )) in
    rw (
      filled (λ k. (entry_at file.entries k).address) loop.addresses loop.place loop.invariant.0
          (λ k from. ap (λ (e : Entry). e.address) (past k from)),
      filled (λ k. byte_of (entry_at file.entries k).configuration) loop.configurations loop.place loop.invariant.1
          (λ k from. ap (λ (e : Entry). byte_of e.configuration) (past k from)),
      c.value.ensures ∙ ap mseccfg_value (c.fields.ensures ∙ ap (λ (f : RegisterFile). f.mseccfg) is),
      c.number.ensures ∙ ap hart_number (c.hart.ensures ∙ ap (λ (f : RegisterFile). f.profile) is),
    ) refl

pub returns-clause-saved : goal.returns-clause-saved
returns-clause-saved c = saved (goal.at.returns-clause-saved c).After-number

pub returns-clause-restored : goal.returns-clause-restored
returns-clause-restored c = ap restored_file (saved (goal.at.returns-clause-restored c).After-number)
    ∙ restored_saved (restored_file c.args.self.now) (restored_legal c.args.self.now)

pub returns-clause-named : goal.returns-clause-named
returns-clause-named c =
    let file = restored_file c.args.self.now in
    ap (λ (saved : SavedRegisters). names_hart saved.entries) (saved (goal.at.returns-clause-named c).After-number)
    ∙ named_of file (restored_legal c.args.self.now).profile
