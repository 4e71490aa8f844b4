-- The text of a register file's registers.
use Rattle.std.specs.Prelude.{ℕ, ◌*◌, List, [], ◌∷◌, ◌++◌, length, map, codes, ◌==◌, if◌then◌else◌}
use Rattle.std.specs.Int.{div_ceil}
use Rattle.std.specs.List.{flat_map, range_with_len}
use Rattle.pmp_core.specs.declared.csr.Csr.{Csr}
use Rattle.pmp_core.specs.declared.csr.Csr.TheVariants.{Cfg, Addr, Mseccfg}
use Rattle.pmp_core.specs.declared.hart.Profile.{Profile}
use Rattle.pmp_core.specs.Hart.{bytes_in}
use Rattle.pmp_text.specs.declared.lines.registers.Form.{Form}
use Rattle.pmp_text.specs.declared.lines.registers.Form.TheVariants.{Dump, Script}
use Rattle.pmp_core.specs.RegisterFile.{RegisterFile}
use Rattle.pmp_core.specs.RegisterValue.{register_value}
use Rattle.pmp_text.specs.Hexadecimal.{value_text}
use Rattle.pmp_text.specs.Heads.{kept_value}
use Rattle.pmp_text.specs.Names.{register_name}

-- the configuration register at this place: on RV64 the odd numbers are left out
abbrev pub cfg_at : Profile → (place : ℕ) → Csr
cfg_at hart place = Cfg (if hart.is_rv32 then place else 2 * place)

-- the configuration registers with the bytes of n entries, as many in each as in the first
abbrev pub cfg_registers : Profile → (n : ℕ) → List Csr
cfg_registers hart n = map (cfg_at hart) (range_with_len 0 (div_ceil n (bytes_in hart 0)))

-- an address register for each entry
abbrev pub addr_registers : (n : ℕ) → List Csr
addr_registers n = map Addr (range_with_len 0 n)

-- the registers of a unit of n entries, except mseccfgh, which is zero
abbrev pub registers_of : Profile → (n : ℕ) → List Csr
registers_of hart n = cfg_registers hart n ++ (addr_registers n ++ Mseccfg ∷ [])

-- a dump shows what a register reads, and a script sets it to all that it stores
abbrev pub form_value : Form → RegisterFile → Csr → ℕ
form_value Dump file csr = register_value file csr
form_value Script file csr = kept_value file csr

-- the name, a blank, `0x` and sixteen digits
abbrev pub register_line : Csr → ℕ → List ℕ
register_line csr value = register_name csr ++ (codes " " ++ (value_text value ++ 10 ∷ []))

-- a script has `set` before it, and nothing for a register that stores zero
abbrev pub form_line : Form → Csr → ℕ → List ℕ
form_line Dump csr value = register_line csr value
form_line Script csr value = if value == 0 then [] else codes "set " ++ register_line csr value

abbrev pub line_of : Form → RegisterFile → Csr → List ℕ
line_of form file csr = form_line form csr (form_value form file csr)

-- a line for each register
unfoldable pub lines_of : Form → RegisterFile → List ℕ
lines_of form file = flat_map (line_of form file) (registers_of file.profile (length file.entries))

unfoldable pub dump_text : RegisterFile → List ℕ
dump_text file = lines_of Dump file
