-- How a line of QEMU's log of trace events is read. PMP events have this form from QEMU 7.2 to 11, after what
-- -msg timestamp=on writes:
--   pmpcfg_csr_write hart 0: write reg0, val: 0x18
--   pmpaddr_csr_read hart 0: read addr1, val: 0x2000ffff
--   mseccfg_csr_write hart 0: write mseccfg, val: 0x7
use Rattle.std.specs.Prelude.{ℕ, List, [], ◌∷◌, drop, Bool, ◌&&◌, ◌||◌, not, ◌==◌, nat_le, Option, Some}
use Rattle.std.specs.Prelude.{None, Result, Ok, Err, is_some, option_map, codes, bytes_eq, position, if◌then◌else◌}
use Rattle.pmp_core.specs.declared.csr.Csr.{Csr}
use Rattle.pmp_core.specs.declared.csr.Csr.TheVariants.{Cfg, Addr, Mseccfg}
use Rattle.pmp_text.specs.declared.refusal.Refusal.{Refusal}
use Rattle.pmp_text.specs.declared.refusal.Refusal.TheVariants.{BadEvent}
use Rattle.pmp_text.specs.Lines.{words}
use Rattle.pmp_text.specs.Names.{plain_number}
use Rattle.pmp_text.specs.Numbers.{numeral}
use Rattle.pmp_import.specs.declared.said.How.{How}
use Rattle.pmp_import.specs.declared.said.How.TheVariants.{Write, Read}
use Rattle.pmp_import.specs.declared.said.Said.{Said}
use Rattle.pmp_import.specs.declared.said.Said.TheVariants.{Nothing, Reset, Register}
use Rattle.pmp_import.specs.declared.said.Told.{Told}
use Rattle.pmp_import.specs.Said.{and_then, before, behind, hex_number, is_of_rv32, occurs}

-- ---- the stamp

-- digits, - . : @ T Z and blanks, as in 2026-11-26T06:15:34.275174Z and 1113@1795673733.795676:
abbrev pub is_stamp : ℕ → Bool
is_stamp byte = (nat_le 48 byte && nat_le byte 57) || byte == 45 || byte == 46 || byte == 58 || byte == 64 || byte == 84
    || byte == 90 || byte == 32

-- what follows a line's stamp
unfoldable pub unstamped : List ℕ → List ℕ
unstamped line = elim (position (λ byte. not (is_stamp byte)) line) [ Some start ↦ drop start line | None ↦ [] ]

-- ---- a write or a read

unfoldable pub verb_named : List ℕ → Option How
verb_named verb = if bytes_eq verb (codes "write") then Some Write
    else (if bytes_eq verb (codes "read") then Some Read else None)

-- the end of the name of such an event
abbrev pub name_end : How → List ℕ
name_end Write = codes "_csr_write"
name_end _ = codes "_csr_read"

-- `reg` and a number for pmpcfg, `addr` and a number for pmpaddr, and mseccfg
unfoldable pub csr_called : (kind register : List ℕ) → Option Csr
csr_called kind register =
    if bytes_eq kind (codes "pmpcfg")
    then and_then (behind (codes "reg") register) (λ digits. option_map Cfg (plain_number 15 digits))
    else (if bytes_eq kind (codes "pmpaddr")
    then and_then (behind (codes "addr") register) (λ digits. option_map Addr (plain_number 63 digits))
    else (if bytes_eq kind (codes "mseccfg") && bytes_eq register (codes "mseccfg") then Some Mseccfg else None))

-- KIND_csr_VERB hart NUMBER: VERB REGISTER, val: VALUE
unfoldable pub access_of : (name number verb register value : List ℕ) → Option Told
access_of name number verb register value =
    and_then (verb_named verb) (λ how.
    and_then (before (name_end how) name) (λ kind.
    and_then (before (codes ",") register) (λ called.
    and_then (csr_called kind called) (λ csr.
    and_then (before (codes ":") number) (λ digits.
    and_then (numeral 10 20 digits) (λ hart.
    and_then (hex_number value) (λ held.
    Some (record { hart = Some hart; how = how; register = csr; value = held; is_rv32 = is_of_rv32 csr }))))))))

unfoldable pub event_told : List (List ℕ) → Option Told
event_told (name ∷ hart ∷ number ∷ verb ∷ register ∷ label ∷ value ∷ []) =
    if bytes_eq hart (codes "hart") && bytes_eq label (codes "val:") then access_of name number verb register value
    else None
event_told _ = None

-- ---- a line

unfoldable pub names_event : List ℕ → Bool
names_event line =
    occurs (codes "pmpcfg_csr_") line || occurs (codes "pmpaddr_csr_") line || occurs (codes "mseccfg_csr_") line

-- a reset event; a write or a read; a line that names such an event in another form, which is refused; or nothing
unfoldable pub qemu_said : List ℕ → Result Said Refusal
qemu_said line =
    let event = unstamped line in
    if is_some (behind (codes "resettable_reset_") event) then Ok Reset
    else (elim (event_told (words event)) [
      | Some told ↦ Ok (Register told)
      | None ↦ if names_event line then Err BadEvent else Ok Nothing
    ])
