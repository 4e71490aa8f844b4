use Rattle.std.proofs.Common.{◌≡◌, ℕ, ◌<◌, false}
use Rattle.pmp_core.specs.RegisterFile.{entry_at}
use Rattle.pmp_core.proofs.registers.Registers.is_any_locked.Given as goal

abbrev pub invariant-loop-index : goal.invariant-loop-index
invariant-loop-index l = (k : ℕ) → k < l.index → (entry_at l.self.entries k).configuration.locked ≡ false
