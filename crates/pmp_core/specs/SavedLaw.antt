-- What is saved is restored.
use Rattle.std.specs.Prelude.{◌≡◌}
use Rattle.pmp_core.specs.RegisterFile.{RegisterFile, IsLegal}
use Rattle.pmp_core.specs.SavedRegisters.{saved_registers, restored_file}

-- saving and restoring a legal file gives it back
abbrev pub SavedLaw : Type 0
SavedLaw = (file : RegisterFile) → IsLegal file → restored_file (saved_registers file) ≡ file
