-- The names of registers.
use Rattle.std.specs.Prelude.{◌≡◌, ℕ, ◌+◌, ◌-◌, List, ◌++◌, length, take, drop, ◌&&◌, ◌==◌, Option, Some, None, Result, Bool}
use Rattle.std.specs.Prelude.{Ok, Err, nat_le, codes, bytes_eq, decimal, slice_index, if◌then◌else◌}
use Rattle.pmp_core.specs.declared.csr.Csr.{Csr}
use Rattle.pmp_core.specs.declared.csr.Csr.TheVariants.{Cfg, Addr, Mseccfg, Mseccfgh}
use Rattle.pmp_core.specs.declared.csr.CsrFault.{CsrFault}
use Rattle.pmp_core.specs.declared.csr.CsrFault.TheVariants as csr_fault
use Rattle.pmp_core.specs.declared.size.TheConstants.{MAX_ENTRIES}
use Rattle.pmp_core.specs.Csr.{numbered_on}
use Rattle.pmp_text.specs.declared.refusal.Refusal.{Refusal}
use Rattle.pmp_text.specs.declared.refusal.Refusal.TheVariants.{BadName, OddCfg}
use Rattle.pmp_text.specs.Numbers.{numeral}

-- ---- written

-- `pmpcfg` or `pmpaddr` and the number in decimal, `mseccfg` or `mseccfgh`
abbrev pub register_name : Csr → List ℕ
register_name (Cfg number) = codes "pmpcfg" ++ decimal number
register_name (Addr number) = codes "pmpaddr" ++ decimal number
register_name Mseccfg = codes "mseccfg"
register_name Mseccfgh = codes "mseccfgh"

-- ---- read

-- a number that is at most `most`
abbrev pub up_to : (most : ℕ) → Option ℕ → Option ℕ
up_to most None = None
up_to most (Some number) = if nat_le number most then Some number else None

-- a number up to a limit below 100, in decimal without leading zeros
unfoldable pub plain_number : (most : ℕ) → List ℕ → Option ℕ
plain_number most digits =
    if length digits == 2 && slice_index digits 0 == 48 then None else up_to most (numeral 10 2 digits)

-- the number of the register this far after the first of its kind
abbrev pub counted_from : (base : ℕ) → Option ℕ → Option ℕ
counted_from base None = None
counted_from base (Some offset) = Some (base + offset)

-- a register's number: `mseccfg`, `mseccfgh`, `pmpcfg` and 0 to 15, `pmpaddr` and 0 to 63, or the number itself in
-- hexadecimal
unfoldable pub register_number : List ℕ → Option ℕ
register_number word =
    if bytes_eq word (codes "mseccfg") then Some 0x747
    else (if bytes_eq word (codes "mseccfgh") then Some 0x757
    else (if bytes_eq (take 6 word) (codes "pmpcfg") then counted_from 0x3a0 (plain_number 15 (drop 6 word))
    else (if bytes_eq (take 7 word) (codes "pmpaddr")
    then counted_from 0x3b0 (plain_number (MAX_ENTRIES - 1) (drop 7 word))
    else (if bytes_eq (take 2 word) (codes "0x") then numeral 16 16 (drop 2 word) else None))))

-- a script's refusal of a number of no register
abbrev pub named : Result Csr CsrFault → Result Csr Refusal
named (Ok csr) = Ok csr
named (Err csr_fault.OddCfg) = Err OddCfg
named (Err csr_fault.NotPmp) = Err BadName

abbrev pub register_numbered : (is_rv32 : Bool) → Option ℕ → Result Csr Refusal
register_numbered is_rv32 None = Err BadName
register_numbered is_rv32 (Some number) = named (numbered_on is_rv32 number)

-- on a hart of XLEN 32, which has every register of RV64, or of 64
abbrev pub register_named : (is_rv32 : Bool) → List ℕ → Result Csr Refusal
register_named is_rv32 word = register_numbered is_rv32 (register_number word)

-- a register's written name is read as that register
abbrev pub NamesReadBackLaw : Type 0
NamesReadBackLaw = (is_rv32 : Bool) (number : ℕ) (csr : Csr) → numbered_on is_rv32 number ≡ Ok csr
    → register_named is_rv32 (register_name csr) ≡ Ok csr
