-- The reasons are complete (Volume II, 3.7.1, 3.7.1.2 and Smepmp).
use Rattle.std.specs.Prelude.{◌≡◌, ◌<◌, ◌↔◌, ℕ, ◌^◌, []}
use Rattle.pmp_core.specs.declared.csr.Csr.{Csr}
use Rattle.pmp_core.specs.RegisterFile.{RegisterFile, IsLegal}
use Rattle.pmp_core.specs.RegisterValue.{register_value}
use Rattle.pmp_core.specs.RegisterWrite.{written}
use Rattle.pmp_core.specs.WriteReasons.{write_reasons}

-- a write has no reason exactly if the register then reads what was written
abbrev pub WriteReasonsLaw : Type 0
WriteReasonsLaw = (file : RegisterFile) → IsLegal file → (csr : Csr) (value : ℕ) → value < 2 ^ 64
    → (write_reasons file csr value ≡ []) ↔ (register_value (written file csr value) csr ≡ value)
