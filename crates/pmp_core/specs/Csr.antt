-- Register numbers (Volume II, 2.2 and 3.7.1).
use Rattle.std.specs.Prelude.{ℕ, ◌-◌, ◌%◌, Result, Ok, Err, nat_le, ◌==◌, ◌&&◌, if◌then◌else◌, Bool, false, not}
use Rattle.pmp_core.specs.declared.csr.Csr.{Csr}
use Rattle.pmp_core.specs.declared.csr.Csr.TheVariants.{Cfg, Addr, Mseccfg, Mseccfgh}
use Rattle.pmp_core.specs.declared.csr.CsrFault.{CsrFault}
use Rattle.pmp_core.specs.declared.csr.CsrFault.TheVariants.{OddCfg, NotPmp}

abbrev is_between : (low high n : ℕ) → Bool
is_between low high n = nat_le low n && nat_le n high

-- pmpcfg0 to pmpcfg15 are 0x3a0 to 0x3af, only the even ones on RV64; pmpaddr0 to pmpaddr63 are 0x3b0 to 0x3ef;
-- mseccfg is 0x747, and mseccfgh, on RV32 only, is 0x757
abbrev pub numbered_on : (is_rv32 : Bool) → ℕ → Result Csr CsrFault
numbered_on is_rv32 number =
    if is_between 0x3a0 0x3af number
    then (if not is_rv32 && number % 2 == 1 then Err OddCfg else Ok (Cfg (number - 0x3a0)))
    else (if is_between 0x3b0 0x3ef number then Ok (Addr (number - 0x3b0))
    else (if number == 0x747 then Ok Mseccfg
    else (if is_rv32 && number == 0x757 then Ok Mseccfgh else Err NotPmp)))

-- on RV64
abbrev pub numbered : ℕ → Result Csr CsrFault
numbered = numbered_on false
