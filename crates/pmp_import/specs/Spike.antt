-- How a line of Spike's commit log is read. A commit has the hart, the mode, the address and the code of the
-- instruction, and then what it wrote: for a CSR its number, its name and its new value. On RV32 addresses
-- and values have eight digits:
--   core   0: 3 0x0000000080000050 (0x3b051073) c944_pmpaddr0 0x0000000020000000
use Rattle.std.specs.Prelude.{ℕ, List, [], ◌∷◌, length, take, Bool, true, false, ◌&&◌, ◌||◌, ◌==◌, Option, Some}
use Rattle.std.specs.Prelude.{None, Result, Ok, Err, codes, bytes_eq, is_some, nat_lt, not, ◌^◌, if◌then◌else◌}
use Rattle.std.specs.List.{before_first, after_first, list_any}
use Rattle.pmp_core.specs.declared.csr.Csr.{Csr}
use Rattle.pmp_core.specs.Csr.{numbered_on}
use Rattle.pmp_text.specs.declared.refusal.Refusal.{Refusal}
use Rattle.pmp_text.specs.declared.refusal.Refusal.TheVariants.{BadEvent}
use Rattle.pmp_text.specs.Lines.{words}
use Rattle.pmp_text.specs.Names.{register_number}
use Rattle.pmp_text.specs.Numbers.{numeral}
use Rattle.pmp_import.specs.declared.said.How.TheVariants.{Commit}
use Rattle.pmp_import.specs.declared.said.Said.{Said}
use Rattle.pmp_import.specs.declared.said.Said.TheVariants.{Nothing, Register}
use Rattle.pmp_import.specs.declared.said.Told.{Told}
use Rattle.pmp_import.specs.Said.{and_then, before, behind, hex_number, names_register}

-- 0x and as many digits as a register of this XLEN has
unfoldable pub sized_number : (is_rv32 : Bool) → List ℕ → Option ℕ
sized_number is_rv32 word = if length word == (if is_rv32 then 10 else 18) then hex_number word else None

-- an underscore
abbrev pub is_low_line : ℕ → Bool
is_low_line byte = byte == 95

abbrev pub csr_numbered : (is_rv32 : Bool) → (number : ℕ) → Option Csr
csr_numbered is_rv32 number = elim (numbered_on is_rv32 number) [ Ok csr ↦ Some csr | Err fault ↦ None ]

-- a CSR as `c`, its number, an underscore and its name, which name the same one
unfoldable pub csr_committed : (is_rv32 : Bool) → List ℕ → Option Csr
csr_committed is_rv32 word =
    and_then (behind (codes "c") (before_first is_low_line word)) (λ digits.
    and_then (numeral 10 4 digits) (λ number.
    and_then (register_number (after_first is_low_line word)) (λ named.
    if named == number && nat_lt number (2 ^ 16) then csr_numbered is_rv32 number else None)))

-- the first word that names a register is a CSR, its value follows, and no later word names one
unfoldable pub written_in : (hart : ℕ) → (is_rv32 : Bool) → List (List ℕ) → Option Told
written_in hart is_rv32 [] = None
written_in hart is_rv32 (word ∷ []) = None
written_in hart is_rv32 (word ∷ value ∷ more) =
    if names_register word then and_then (csr_committed is_rv32 word) (λ csr.
    and_then (sized_number is_rv32 value) (λ held. if list_any names_register more then None
    else Some (record { hart = Some hart; how = Commit; register = csr; value = held; is_rv32 = is_rv32 })))
    else written_in hart is_rv32 (value ∷ more)

-- 0, 1, 2 or 3
abbrev pub is_mode : List ℕ → Bool
is_mode word = bytes_eq word (codes "0") || bytes_eq word (codes "1") || bytes_eq word (codes "2")
    || bytes_eq word (codes "3")

-- the instruction's code in parentheses
abbrev pub is_code : List ℕ → Bool
is_code word = is_some (and_then (behind (codes "(") word) (λ rest. and_then (before (codes ")") rest) hex_number))

-- what a commit at this address writes
unfoldable pub written_at : (number address : List ℕ) → List (List ℕ) → Option Told
written_at number address written =
    and_then (before (codes ":") number) (λ digits. and_then (numeral 10 20 digits) (λ hart.
    let is_rv32 = is_some (sized_number true address) in
    if is_rv32 || is_some (sized_number false address) then written_in hart is_rv32 written else None))

unfoldable pub commit_told : List (List ℕ) → Option Told
commit_told (core ∷ number ∷ mode ∷ address ∷ code ∷ written) =
    if bytes_eq core (codes "core") && is_mode mode && is_code code then written_at number address written else None
commit_told _ = None

-- lines that the option -l adds: a function's name, or an instruction after its address
unfoldable pub is_listing : List (List ℕ) → Bool
is_listing (core ∷ number ∷ word ∷ more) =
    bytes_eq core (codes "core") && (bytes_eq word (codes ">>>>") || bytes_eq (take 2 word) (codes "0x"))
is_listing _ = false

-- a line that names a register is a commit that writes it, a listing, or is refused
unfoldable pub spike_said : List ℕ → Result Said Refusal
spike_said line =
    if not (names_register line) || is_listing (words line) then Ok Nothing
    else (elim (commit_told (words line)) [ Some told ↦ Ok (Register told) | None ↦ Err BadEvent ])
