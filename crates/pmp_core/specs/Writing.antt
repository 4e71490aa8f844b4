-- What a register write does to the saved numbers (Volume II, 3.7.1, 3.7.1.2 and Smepmp).
use Rattle.std.specs.Prelude.{◌≡◌, ◌≢◌, ℕ, Bool, true, false}
use Rattle.pmp_core.specs.declared.csr.Csr.{Csr}
use Rattle.pmp_core.specs.declared.register_write.Written.{Written}
use Rattle.pmp_core.specs.declared.saved_registers.SavedRegisters.{SavedRegisters}
use Rattle.pmp_core.specs.RegisterWrite.{written}
use Rattle.pmp_core.specs.SavedRegisters.{IsCanonical, restored_file}
use Rattle.pmp_core.specs.WriteReasons.{reasons_of}

-- they encode the file after the write, and are unchanged if it is the same
pub record IsStored (old new : SavedRegisters) (csr : Csr) (value : ℕ) (is_changed : Bool) : Type 0 where
  pub file : restored_file new ≡ written (restored_file old) csr value
  pub canonical : IsCanonical old → IsCanonical new
  pub same : is_changed ≡ false → new ≡ old
  pub changed : is_changed ≡ true → restored_file new ≢ restored_file old

-- and the result says why the register doesn't read the value
pub record IsWritten (old new : SavedRegisters) (csr : Csr) (value : ℕ) (result : Written) : Type 0 where
  pub stored : IsStored old new csr value result.is_changed
  pub reasons : result.reasons ≡ reasons_of (restored_file old) csr value
