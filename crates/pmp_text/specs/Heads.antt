-- What the head of a script gives: its hart, and the registers before the first event.
use Rattle.std.specs.Prelude.{ℕ, ◌+◌, ◌*◌, ◌%◌, ◌^◌, ◌==◌, ◌&&◌, ◌||◌, ◌++◌, Bool, true, false, List, drop, find, fold}
use Rattle.std.specs.Prelude.{not, nat_lt, slice_set, take, Option, Some, None, Result, Ok, Err, option_map, unwrap_or, [], ◌∷◌}
use Rattle.std.specs.Prelude.{if◌then◌else◌}
use Rattle.std.specs.Option.{option_or}
use Rattle.std.specs.Int.{w64, to_le_bytes}
use Rattle.pmp_core.specs.declared.csr.Csr.{Csr}
use Rattle.pmp_core.specs.declared.csr.Csr.TheVariants.{Cfg, Addr, Mseccfg, Mseccfgh}
use Rattle.pmp_core.specs.declared.hart.HartFault.{HartFault}
use Rattle.pmp_core.specs.declared.hart.HartFault.TheVariants as hart_fault
use Rattle.pmp_core.specs.declared.saved_registers.SavedRegisters.{SavedRegisters}
use Rattle.pmp_core.specs.declared.size.Size.TheVariants.{Sixteen}
use Rattle.pmp_core.specs.declared.size.TheConstants.{MAX_ENTRIES}
use Rattle.pmp_core.specs.declared.hart.Profile.{Profile}
use Rattle.pmp_core.specs.declared.hart.TheConstants.{MAX_ADDRESS_BITS, MAX_GRAIN, MIN_ADDRESS_BITS}
use Rattle.pmp_core.specs.declared.event.Event.{Event}
use Rattle.pmp_core.specs.declared.event.Event.TheVariants.{Write, Reset}
use Rattle.pmp_core.specs.Hart.{bytes_in, hart_fault, most_bits, profile_of}
use Rattle.pmp_core.specs.RegisterFile.{RegisterFile, entry_at, reset_file}
use Rattle.pmp_core.specs.RegisterValue.{register_value}
use Rattle.pmp_core.specs.SavedRegisters.{restored_file, saved_registers}
use Rattle.pmp_text.specs.declared.flaw.Flaw.{Flaw}
use Rattle.pmp_text.specs.declared.refusal.Refusal.{Refusal}
use Rattle.pmp_text.specs.declared.refusal.Refusal.TheVariants as kind
use Rattle.pmp_text.specs.declared.script.hart_field.HartField.{HartField}
use Rattle.pmp_text.specs.declared.script.hart_field.HartField.TheVariants.{Xlen, Entries, Grain, Bits, Smepmp}
use Rattle.pmp_text.specs.declared.script.statement.HeadStatement.{HeadStatement}
use Rattle.pmp_text.specs.declared.script.statement.HeadStatement.TheVariants.{Hart, Set}
use Rattle.pmp_text.specs.declared.script.head.HeadLine.{HeadLine}
use Rattle.pmp_text.specs.declared.expectation.Expectation.{Expectation}
use Rattle.pmp_text.specs.declared.fault.Fault.{Fault}
use Rattle.pmp_text.specs.declared.script.version.Version.{Version}
use Rattle.pmp_text.specs.declared.script.version.Version.TheVariants.{Sized, Headed}
use Rattle.pmp_text.specs.Flaws.{at_line, part}

-- ---- the hart

-- the default hart; 0 address bits are as many as XLEN allows
abbrev pub unsaid_hart : Profile
unsaid_hart = record (profile_of Sixteen) { address_bits = 0 }

-- the hart with this field replaced
abbrev pub with_field : Profile → HartField → Profile
with_field said (Xlen is_rv32) = record said { is_rv32 = is_rv32 }
with_field said (Entries n) = record said { entries = n }
with_field said (Grain n) = record said { grain = n }
with_field said (Bits n) = record said { address_bits = n }
with_field said (Smepmp has) = record said { has_smepmp = has }

abbrev pub hart_kind : HartFault → Refusal
hart_kind hart_fault.Entries = kind.BadEntries
hart_kind hart_fault.Grain = kind.BadGrain
hart_kind hart_fault.AddressBits = kind.BadBits

-- a number that no hart has
abbrev pub field_fault : HartField → Option Refusal
field_fault (Xlen is_rv32) = None
field_fault (Entries n) = if nat_lt MAX_ENTRIES n then Some kind.BadEntries else None
field_fault (Grain n) = if nat_lt MAX_GRAIN n then Some kind.BadGrain else None
field_fault (Bits n) = if nat_lt n MIN_ADDRESS_BITS || nat_lt MAX_ADDRESS_BITS n then Some kind.BadBits else None
field_fault (Smepmp has) = None

abbrev pub own_fault : HeadStatement → Option Flaw
own_fault (Hart field) = option_map (part 2) (field_fault field)
own_fault (Set register value) = None

abbrev pub checked : {F : Type 0} → Option F → Profile → Result Profile F
checked (Some fault) said = Err fault
checked None said = Ok said

abbrev pub said_with : Profile → HartField → Result Profile Refusal
said_with said field = checked (field_fault field) (with_field said field)

abbrev pub with_statement : Profile → HeadStatement → Profile
with_statement said (Hart field) = with_field said field
with_statement said (Set register value) = said

-- the hart that these lines give, in any order
abbrev pub profile_said : List HeadLine → Profile
profile_said lines = fold (λ said line. with_statement said line.statement) unsaid_hart lines

-- whether XLEN is 32 after a line with this
abbrev pub rv32_with : HeadStatement → (before : Bool) → Bool
rv32_with (Hart (Xlen is_rv32)) before = is_rv32
rv32_with _ before = before

abbrev pub with_bits : Profile → Profile
with_bits said =
    if said.address_bits == 0 then record said { address_bits = most_bits said.is_rv32 } else said

-- the hart of these lines
abbrev pub hart_said : List HeadLine → Profile
hart_said lines = with_bits (profile_said lines)

abbrev pub says_bits : HeadStatement → Bool
says_bits (Hart (Bits n)) = true
says_bits _ = false

-- a number of address bits that no hart of this XLEN has, at the line that gives it
unfoldable pub bits_fault : List HeadLine → Option Fault
bits_fault lines =
    let line = find (λ line. says_bits line.statement) lines in
    option_map (λ fault. at_line (unwrap_or (option_map (λ line. line.line) line) 0) (part 2 (hart_kind fault)))
    (hart_fault (hart_said lines))

-- ---- what is given twice

abbrev pub same_field : HartField → HartField → Bool
same_field (Xlen is_rv32) (Xlen is_too) = true
same_field (Entries n) (Entries m) = true
same_field (Grain n) (Grain m) = true
same_field (Bits n) (Bits m) = true
same_field (Smepmp has) (Smepmp too) = true
same_field _ _ = false

abbrev pub same_register : Csr → Csr → Bool
same_register (Cfg n) (Cfg m) = n == m
same_register (Addr n) (Addr m) = n == m
same_register Mseccfg Mseccfg = true
same_register Mseccfgh Mseccfgh = true
same_register _ _ = false

-- two lines give the same field of the hart, or set the same register
abbrev pub is_same : HeadStatement → HeadStatement → Bool
is_same (Hart field) (Hart other) = same_field field other
is_same (Set register value) (Set other_register other) = same_register register other_register
is_same _ _ = false

-- ---- registers of the hart

-- the refusal of a register that no hart of this XLEN has
abbrev pub foreign_kind : (is_rv32 : Bool) → Csr → Option Refusal
foreign_kind is_rv32 (Cfg n) = if not is_rv32 && n % 2 == 1 then Some kind.OddCfg else None
foreign_kind is_rv32 (Addr n) = None
foreign_kind is_rv32 Mseccfg = None
foreign_kind is_rv32 Mseccfgh = if is_rv32 then None else Some kind.BadName

abbrev pub foreign_at : (is_rv32 : Bool) → (number : ℕ) → Csr → Option Fault
foreign_at is_rv32 number csr = option_map (λ refusal. at_line number (part 1 refusal)) (foreign_kind is_rv32 csr)

abbrev pub foreign_set : (is_rv32 : Bool) → (number : ℕ) → HeadStatement → Option Fault
foreign_set is_rv32 number (Hart field) = None
foreign_set is_rv32 number (Set csr value) = foreign_at is_rv32 number csr

abbrev pub foreign_line : (is_rv32 : Bool) → HeadLine → Option Fault
foreign_line is_rv32 line = foreign_set is_rv32 line.line line.statement

abbrev pub foreign_expectation : (is_rv32 : Bool) → Expectation → Option Fault
foreign_expectation is_rv32 expected = foreign_at is_rv32 expected.line expected.register

-- the first fault in the list
abbrev pub first_of : {X : Type 0} → (X → Option Fault) → List X → Option Fault
first_of fault [] = None
first_of fault (x ∷ xs) = option_or (fault x) (first_of fault xs)

-- a write to such a register, or on RV32 of more than 32 bits
abbrev pub write_flaw : (is_rv32 : Bool) → Csr → (value : ℕ) → Option Flaw
write_flaw is_rv32 csr value =
    option_or (option_map (part 1) (foreign_kind is_rv32 csr))
    (if is_rv32 && not (nat_lt value (2 ^ 32)) then Some (part 2 kind.BadNumber) else None)

abbrev pub event_flaw : Version → (is_rv32 : Bool) → Event → Option Flaw
event_flaw (Sized size) is_rv32 event = None
event_flaw Headed is_rv32 (Write csr value) = write_flaw is_rv32 csr value
event_flaw Headed is_rv32 Reset = None

-- ---- what registers are set to

-- `count` bytes of a value, the lowest first, replace those of the entries from `first` on
abbrev pub with_bytes : (configurations : List ℕ) → (first count value : ℕ) → List ℕ
with_bytes configurations first count value =
    take first configurations ++ (take count (to_le_bytes w64 value) ++ drop (first + count) configurations)

-- this hart's numbers, with a register's replaced by this value
abbrev pub with_register : Profile → SavedRegisters → Csr → ℕ → SavedRegisters
with_register hart saved (Cfg n) value =
    if nat_lt n 16
    then record saved { configurations = with_bytes saved.configurations (4 * n) (bytes_in hart n) value } else saved
with_register hart saved (Addr n) value =
    if nat_lt n MAX_ENTRIES then record saved { addresses = slice_set saved.addresses n value } else saved
with_register hart saved Mseccfg value = record saved { mseccfg = value }
with_register hart saved Mseccfgh value = saved

abbrev pub with_set : Profile → SavedRegisters → HeadStatement → SavedRegisters
with_set hart saved (Hart field) = saved
with_set hart saved (Set register value) = with_register hart saved register value

-- the file of this hart that these lines give: that of reset with the values that are set, whatever is locked
abbrev pub start_on : Profile → List HeadLine → RegisterFile
start_on hart lines =
    restored_file (fold (λ saved line. with_set hart saved line.statement) (saved_registers (reset_file hart)) lines)

abbrev pub start_said : List HeadLine → RegisterFile
start_said lines = start_on (hart_said lines) lines

-- all that a register stores, of an address also the bits below the grain
abbrev pub kept_value : RegisterFile → Csr → ℕ
kept_value file (Addr n) = (entry_at file.entries n).address
kept_value file register = register_value file register

abbrev pub is_kept : RegisterFile → HeadStatement → Bool
is_kept file (Hart field) = true
is_kept file (Set register value) = kept_value file register == value

-- the line of the first value that its register doesn't store
abbrev pub first_not_held : RegisterFile → List HeadLine → Option ℕ
first_not_held file lines =
    option_map (λ line. line.line) (find (λ line. not (is_kept file line.statement)) lines)

-- ---- all

-- a register that the hart doesn't have, in a line or an expectation, and then a value that its register doesn't store,
-- which only the whole head shows
unfoldable pub fault_on : RegisterFile → List HeadLine → List Expectation → Option Fault
fault_on file lines expectations =
    let is_rv32 = file.profile.is_rv32 in
    option_or (option_or (first_of (foreign_line is_rv32) lines) (first_of (foreign_expectation is_rv32) expectations))
    (option_map (λ number. at_line number (part 2 kind.NotHeld)) (first_not_held file lines))

-- the file that a head's lines give, if they have no such fault, and a hart of their XLEN has their address bits
abbrev pub started : List HeadLine → List Expectation → Result RegisterFile Fault
started lines expectations = elim (bits_fault lines) [
  | Some fault ↦ Err fault
  | None ↦ elim (fault_on (start_said lines) lines expectations) [ Some fault ↦ Err fault | None ↦ Ok (start_said lines) ]
]
