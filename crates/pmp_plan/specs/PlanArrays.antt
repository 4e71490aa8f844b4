-- The writes of a plan as an array in C.
use Rattle.std.specs.Prelude.{ℕ, ◌+◌, List, [], ◌++◌, codes, false}
use Rattle.std.specs.Fmt.{digits}
use Rattle.std.specs.List.{flat_map}
use Rattle.pmp_core.specs.declared.csr.Csr.{Csr}
use Rattle.pmp_core.specs.declared.csr.Csr.TheVariants.{Cfg, Addr, Mseccfg, Mseccfgh}
use Rattle.pmp_core.specs.declared.event.Event.{Event}
use Rattle.pmp_core.specs.declared.event.Event.TheVariants.{Write, Reset}
use Rattle.pmp_text.specs.Names.{register_name}

-- the number of a register (Volume II, 2.2)
abbrev pub csr_number : Csr → ℕ
csr_number (Cfg register) = 0x3a0 + register
csr_number (Addr entry) = 0x3b0 + entry
csr_number Mseccfg = 0x747
csr_number Mseccfgh = 0x757

-- a number and a value in hexadecimal, and a comment with the register's name
abbrev pub array_line : Event → List ℕ
array_line (Write csr value) =
    codes "    {0x" ++ (digits 16 false (csr_number csr) ++ (codes ", 0x" ++ (digits 16 false value
    ++ (codes "}, /* " ++ (register_name csr ++ codes " */\n")))))
array_line Reset = []

-- an element for each write, in order
abbrev pub array_text : List Event → List ℕ
array_text writes =
    codes "static const struct { unsigned csr; unsigned long long value; } pmp_writes[] = {\n"
    ++ (flat_map array_line writes ++ codes "};\n")
