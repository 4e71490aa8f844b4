use Rattle.pmp_core.specs.Configuration.{byte_of}
use Rattle.pmp_core.specs.RegisterFile.{entry_at}
use Rattle.pmp_core.specs.SavedRegisters.{restored_file}
use Rattle.pmp_core.proofs.Saved.{IsFilledTo}
use Rattle.pmp_core.proofs.saved_registers.SavedRegisters.canonical.Given as goal

abbrev pub invariant-loop-place : goal.invariant-loop-place
invariant-loop-place l =
    let entries = (restored_file l.self).entries in
    IsFilledTo (λ k. (entry_at entries k).address) l.addresses l.place
    × IsFilledTo (λ k. byte_of (entry_at entries k).configuration) l.configurations l.place
