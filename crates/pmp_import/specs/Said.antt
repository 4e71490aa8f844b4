-- What the lines of all logs have in common.
use Rattle.std.specs.Prelude.{ℕ, ◌-◌, ◌%◌, List, length, take, drop, Bool, true, false, ◌||◌, ◌==◌, Option, Some}
use Rattle.std.specs.Prelude.{None, is_some, codes, bytes_eq, if◌then◌else◌}
use Rattle.memchr.specs.Find.{first_of, matches}
use Rattle.pmp_core.specs.declared.csr.Csr.{Csr}
use Rattle.pmp_core.specs.declared.csr.Csr.TheVariants.{Cfg, Mseccfgh}
use Rattle.pmp_text.specs.Numbers.{numeral}

-- only RV32 has the odd pmpcfg registers and mseccfgh
abbrev pub is_of_rv32 : Csr → Bool
is_of_rv32 (Cfg number) = number % 2 == 1
is_of_rv32 Mseccfgh = true
is_of_rv32 _ = false

-- one reading after another; the first may give nothing
abbrev pub and_then : {X Y : Type 0} → Option X → (X → Option Y) → Option Y
and_then None next = None
and_then (Some x) next = next x

-- what follows this prefix of a word
abbrev pub behind : (front word : List ℕ) → Option (List ℕ)
behind front word = if bytes_eq (take (length front) word) front then Some (drop (length front) word) else None

-- what precedes this suffix of a word
abbrev pub before : (end word : List ℕ) → Option (List ℕ)
before end word = if bytes_eq (drop (length word - length end) word) end
    then Some (take (length word - length end) word) else None

-- `0x` and 1 to 16 hexadecimal digits
abbrev pub hex_number : List ℕ → Option ℕ
hex_number word = if bytes_eq (take 2 word) (codes "0x") then numeral 16 16 (drop 2 word) else None

-- the name occurs in the line
unfoldable pub occurs : (name line : List ℕ) → Bool
occurs name line = is_some (first_of (matches line name 0))

-- a register's name occurs in the line
unfoldable pub names_register : List ℕ → Bool
names_register line = occurs (codes "pmpcfg") line || occurs (codes "pmpaddr") line || occurs (codes "mseccfg") line
