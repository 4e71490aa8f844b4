-- The number that a call returns: whether it accepted a register's number, and what a write did.
use Rattle.std.specs.Prelude.{◌≡◌, ◌↔◌, ℕ, ◌+◌, ◌*◌, ◌/◌, ◌%◌, ◌<◌, if◌then◌else◌, Option, MatchOption, Result, Ok, Err}
use Rattle.pmp_core.specs.declared.csr.Csr.{Csr}
use Rattle.pmp_core.specs.declared.csr.Csr.TheVariants.{Cfg, Addr, Mseccfg, Mseccfgh}
use Rattle.pmp_core.specs.declared.csr.CsrFault.{CsrFault}
use Rattle.pmp_core.specs.declared.csr.CsrFault.TheVariants.{OddCfg, NotPmp}
use Rattle.pmp_core.specs.declared.hart.Profile.{Profile}
use Rattle.pmp_core.specs.declared.register_write.Written.{Written}
use Rattle.pmp_core.specs.declared.span.Span.{Span}
use Rattle.pmp_core.specs.Csr.{numbered_on}
use Rattle.pmp_core.specs.Moved.{AreAlikeBeside, moved_by}
use Rattle.pmp_core.specs.RegisterFile.{RegisterFile}
use Rattle.pmp_core.specs.RegisterValue.{register_value}
use Rattle.pmp_core.specs.RegisterWrite.{written}
use Rattle.pmp_core.specs.SavedRegisters.{IsCanonical}
use Rattle.pmp_core.specs.WriteReasons.{reasons_of}
use Rattle.pmp_c.specs.declared.unit.Unit.{Unit}
use Rattle.pmp_c.specs.Unit.{file_of_unit, IsUnit, IsChanged}

-- a hart without Smepmp has no mseccfg and no mseccfgh
abbrev pub register_on : Profile → Csr → Result Csr CsrFault
register_on profile (Cfg q) = Ok (Cfg q)
register_on profile (Addr i) = Ok (Addr i)
register_on profile Mseccfg = if profile.has_smepmp then Ok Mseccfg else Err NotPmp
register_on profile Mseccfgh = if profile.has_smepmp then Ok Mseccfgh else Err NotPmp

abbrev pub found_on : Profile → Result Csr CsrFault → Result Csr CsrFault
found_on profile (Ok csr) = register_on profile csr
found_on profile (Err fault) = Err fault

-- the register of the file's hart with this CSR number (3.7.1 and Smepmp)
abbrev pub register_in : RegisterFile → (number : ℕ) → Result Csr CsrFault
register_in file number = found_on file.profile (numbered_on file.profile.is_rv32 number)

-- 0 if the call accepted it
abbrev pub status_number : Result Csr CsrFault → ℕ
status_number (Ok csr) = 0
status_number (Err OddCfg) = 1
status_number (Err NotPmp) = 2

-- the status of a call with a number that names no hart
abbrev pub no_hart : ℕ
no_hart = 3

-- 4 if some register changed, plus 256 times the reasons
abbrev pub write_number : Written → ℕ
write_number answer = (if answer.is_changed then 4 else 0) + 256 * answer.reasons.0

-- a write to the register of a unit, and the number that gives whether any register changed, and why this one
-- doesn't read the value; it has no other bit
pub record IsWriteAnswer (old new : Unit) (csr : Csr) (value number : ℕ) : Type 0 where
  pub file : file_of_unit new ≡ written (file_of_unit old) csr value
  pub order : IsUnit old → IsUnit new
  pub canonical : IsCanonical old.registers → IsCanonical new.registers
  pub low : number % 256 ≡ 4 * (number / 4 % 2)
  pub same : number / 4 % 2 ≡ 0 → new ≡ old
  pub changed : number / 4 % 2 ≡ 1 → IsChanged old new
  pub reasons : number / 256 ≡ (reasons_of (file_of_unit old) csr value).0
  pub stored : number < 256 ↔ register_value (file_of_unit new) csr ≡ value

abbrev pub ends : (first last : ℕ) → Span
ends first last = record { first = first; last = last }

-- the same, and 8 more if some access may be decided differently: then the ends are the first and the last byte that
-- may be affected, else they are unchanged
pub record IsMoveAnswer (old new : Unit) (csr : Csr) (value : ℕ) (were are : Span) (number : ℕ) : Type 0 where
  pub status : ℕ
  pub write : IsWriteAnswer old new csr value status
  pub moved : Option Span
  pub moved_is : moved ≡ moved_by (file_of_unit old) (file_of_unit new) csr
  pub beside : AreAlikeBeside (file_of_unit old) (file_of_unit new) moved
  pub told : MatchOption moved ((number ≡ status) × (are ≡ were)) (λ span. (number ≡ status + 8) × (are ≡ span))
