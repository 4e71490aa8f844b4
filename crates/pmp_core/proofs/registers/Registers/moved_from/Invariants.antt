use Rattle.std.proofs.Common.{◌≡◌, ◌*◌, ℕ}
use Rattle.pmp_core.specs.declared.csr.Csr.TheVariants.{Cfg}
use Rattle.pmp_core.specs.Moved.{moved_among}
use Rattle.pmp_core.specs.RegisterFile.{RegisterFile}
use Rattle.pmp_core.specs.RegisterValue.{register_value}
use Rattle.pmp_core.specs.RegisterWrite.{written}
use Rattle.pmp_core.proofs.registers.Registers.moved_from.Given as goal

-- the entries so far
abbrev pub invariant-loop-place : goal.invariant-loop-place
invariant-loop-place l = record {
  moved : (before : RegisterFile) (value : ℕ) → l.self ≡ written before (Cfg l.register) value
      → l.old ≡ register_value before (Cfg l.register) → l.moved ≡ moved_among before l.self (4 * l.register) l.place;
}
