-- The script that a log gives.
use Rattle.std.specs.Prelude.{ℕ, ◌+◌, ◌-◌, ◌%◌, ◌^◌, List, [], ◌∷◌, ◌++◌, Bool, true, false, not, ◌&&◌, ◌||◌, ◌==◌, min}
use Rattle.std.specs.Prelude.{nat_le, nat_lt, Option, Some, None, Result, Ok, Err, unwrap_or, codes, decimal, if◌then◌else◌}
use Rattle.std.specs.Fmt.{digits}
use Rattle.pmp_core.specs.declared.csr.Csr.{Csr}
use Rattle.pmp_core.specs.declared.csr.Csr.TheVariants.{Addr}
use Rattle.pmp_core.specs.declared.event.TheConstants.{BATCH_EVENTS}
use Rattle.pmp_text.specs.declared.refusal.Refusal.{Refusal}
use Rattle.pmp_text.specs.declared.refusal.Refusal.TheVariants.{BadNumber, NoHart, OddCfg, TooLong}
use Rattle.pmp_text.specs.GivenBack.{hart_line}
use Rattle.pmp_text.specs.Names.{register_name}
use Rattle.pmp_text.specs.declared.fault.Fault.{Fault}
use Rattle.pmp_text.specs.declared.fault.Source.TheVariants as source
use Rattle.pmp_text.specs.declared.input.InputFault.{InputFault}
use Rattle.pmp_text.specs.declared.input.InputFault.TheVariants as input
use Rattle.pmp_text.specs.Flaws.{as_whole, at_row}
use Rattle.pmp_text.specs.Inputs.{input_fault}
use Rattle.pmp_import.specs.declared.given.Given.{Given}
use Rattle.pmp_import.specs.declared.given.Walk.{Walk}
use Rattle.pmp_import.specs.declared.said.How.{How}
use Rattle.pmp_import.specs.declared.said.How.TheVariants.{Write, Read, Commit, Show}
use Rattle.pmp_import.specs.declared.said.Said.{Said}
use Rattle.pmp_import.specs.declared.said.Said.TheVariants.{Nothing, Reset, Hart, Register}
use Rattle.pmp_import.specs.declared.said.Told.{Told}
use Rattle.pmp_import.specs.Formats.{line_said, source_text}

-- ---- the head

-- a hart line for a number, if it is given
unfoldable pub number_line : (name : List ℕ) → Option ℕ → List ℕ
number_line name None = []
number_line name (Some number) = hart_line name (decimal number) []

-- 16 entries are the default
unfoldable pub other_entries : ℕ → Option ℕ
other_entries entries = if entries == 16 then None else Some entries

-- and so is RV64
unfoldable pub xlen_line : (is_rv32 : Bool) → List ℕ
xlen_line is_rv32 = if is_rv32 then hart_line (codes "xlen") (codes "32") [] else []

-- and Smepmp
unfoldable pub smepmp_line : (has_smepmp : Bool) → List ℕ
smepmp_line has_smepmp = if has_smepmp then [] else hart_line (codes "smepmp") (codes "no") []

-- names the moment here
abbrev pub mark_line : (name : List ℕ) → List ℕ
mark_line name = codes "mark " ++ (name ++ 10 ∷ [])

-- the version, the source of the log, the hart, and the name of the moment before its first event
unfoldable pub head_text : Given → List ℕ
head_text given =
    codes "pmp 3" ++ 10 ∷ (codes "# from " ++ (source_text given.format ++ (codes ", hart "
    ++ (decimal given.hart ++ 10 ∷ (xlen_line given.is_rv32
    ++ (number_line (codes "entries") (other_entries given.entries)
    ++ (number_line (codes "grain") given.grain ++ (number_line (codes "bits") given.bits
    ++ (smepmp_line given.has_smepmp ++ mark_line (codes "start"))))))))))

-- ---- the script lines for a log line

-- `0x` and as few digits as the value has
abbrev pub hex_text : ℕ → List ℕ
hex_text value = codes "0x" ++ digits 16 false value

-- a comment with the number of the log's line
abbrev pub source_line : ℕ → List ℕ
source_line number = codes "# line " ++ (decimal number ++ 10 ∷ [])

-- `write`, `expect` or `set`, a register and a value
abbrev pub value_line : (word : List ℕ) → Csr → ℕ → List ℕ
value_line word csr value = word ++ (codes " " ++ (register_name csr ++ (codes " " ++ (hex_text value ++ 10 ∷ []))))

abbrev pub publish_if : Bool → List ℕ
publish_if true = codes "publish" ++ 10 ∷ []
publish_if false = []

-- a pmpaddr of RV64 has 54 bits
abbrev pub kept_of : (is_rv32 : Bool) → Csr → ℕ → ℕ
kept_of false (Addr number) value = value % 2 ^ 54
kept_of _ _ value = value

-- a register has this value, except for bits that no hart stores
abbrev pub kept_lines : (word : List ℕ) → (is_rv32 : Bool) → Csr → ℕ → List ℕ
kept_lines word is_rv32 csr value =
    (if kept_of is_rv32 csr value == value then []
    else codes "# " ++ (register_name csr ++ (codes " had " ++ (hex_text value
    ++ (codes ": bits 63 to 54 are dropped" ++ 10 ∷ [])))))
    ++ value_line word csr (kept_of is_rv32 csr value)

abbrev pub is_write : How → Bool
is_write Write = true
is_write Commit = true
is_write _ = false

abbrev pub is_read : How → Bool
is_read Read = true
is_read _ = false

-- what is written
abbrev pub write_lines : Told → List ℕ
write_lines told = if is_write told.how then value_line (codes "write") told.register told.value else []

-- and what is then known of the register
abbrev pub known_lines : (is_rv32 : Bool) → Told → List ℕ
known_lines is_rv32 told = elim told.how [
  | Write ↦ []
  | Read ↦ kept_lines (codes "expect") is_rv32 told.register told.value
  | Commit ↦ kept_lines (codes "expect") is_rv32 told.register told.value
  | Show ↦ kept_lines (codes "set") is_rv32 told.register told.value
]

-- a register that a debugger shows with its reset value
abbrev pub is_unset : Told → Bool
is_unset told = elim told.how [ Show ↦ told.value == 0 | _ ↦ false ]

-- ---- the state of a reading

-- whether a line is about the hart
abbrev pub is_of_hart : Given → Walk → Told → Bool
is_of_hart given walk told = unwrap_or told.hart walk.shown == given.hart

-- a write ends its publication, except in a burst of fewer than 64
abbrev pub ends : Given → Walk → Bool
ends given walk = not given.bursts || nat_le BATCH_EVENTS (walk.pending + 1)

abbrev pub is_open : Walk → Bool
is_open walk = nat_lt 0 walk.pending

abbrev pub told_text : Given → Walk → Told → List ℕ
told_text given walk told =
    publish_if (is_open walk && not (is_write told.how)) ++ (if is_unset told then []
    else source_line walk.line ++ (write_lines told ++ (publish_if (is_write told.how && ends given walk)
    ++ known_lines given.is_rv32 told)))

-- the moments after resets are `reset`, `reset2`, `reset3` and so on
abbrev pub reset_name : (number : ℕ) → List ℕ
reset_name number = codes "reset" ++ (if number == 1 then [] else decimal number)

-- a reset of a hart that wasn't used since the last one is dropped
abbrev pub reset_text : Walk → List ℕ
reset_text walk = publish_if (is_open walk) ++ (if walk.is_used
    then source_line walk.line ++ (codes "reset" ++ 10 ∷ (codes "publish" ++ 10 ∷ mark_line (reset_name walk.reset)))
    else [])

-- the script lines for a log line; any but a write ends a burst
abbrev pub said_text : Given → Walk → Said → List ℕ
said_text given walk (Register told) =
    if is_of_hart given walk told then told_text given walk told else publish_if (is_open walk)
said_text given walk Reset = reset_text walk
said_text given walk _ = publish_if (is_open walk)

-- after a line that gives no event
abbrev pub behind_line : Walk → Walk
behind_line walk = record walk { line = min (walk.line + 1) (2 ^ 64 - 1); pending = 0 }

abbrev pub behind_told : Given → Walk → Told → Walk
behind_told given walk told = record (behind_line walk) {
  pending = if is_write told.how && not (ends given walk) then walk.pending + 1 else 0;
  is_used = true;
  is_found = walk.is_found || not (is_read told.how);
}

abbrev pub behind_reset : Walk → Walk
behind_reset walk = record (behind_line walk) {
  is_used = false;
  reset = if walk.is_used then min (walk.reset + 1) (2 ^ 64 - 1) else walk.reset;
}

abbrev pub behind_said : Given → Walk → Said → Walk
behind_said given walk (Register told) =
    if is_of_hart given walk told then behind_told given walk told else behind_line walk
behind_said given walk Reset = behind_reset walk
behind_said given walk (Hart hart) = record (behind_line walk) { shown = hart }
behind_said given walk Nothing = behind_line walk

-- ---- the whole

-- a register that only the other XLEN has, or a value too large for this one
abbrev pub foreign : (is_rv32 : Bool) → Told → Option Refusal
foreign true told = if nat_le (2 ^ 32) told.value then Some BadNumber else None
foreign false told = if told.is_rv32 then Some OddCfg else None

-- the hart can't have what a line shows of it
abbrev pub line_fault : Given → Walk → Said → Option Refusal
line_fault given walk (Register told) = if is_of_hart given walk told then foreign given.is_rv32 told else None
line_fault given walk _ = None

abbrev pub unless : Option Refusal → Said → Result Said Refusal
unless None said = Ok said
unless (Some refusal) said = Err refusal

-- what a line means
abbrev pub line_of : Given → Walk → List ℕ → Result Said Refusal
line_of given walk line = elim (line_said given.format line) [
  | Ok said ↦ unless (line_fault given walk said) said
  | Err refusal ↦ Err refusal
]

-- the fault of a line, or of no line if that is 0
abbrev pub at : (line : ℕ) → Refusal → Fault
at line refusal = at_row source.Log line (as_whole refusal)

-- no more lines can be read: if one is too long, it is the next one
abbrev pub stop_at : (line : ℕ) → InputFault → Fault
stop_at line input.TooLong = at line TooLong
stop_at line fault = input_fault source.Log fault

abbrev pub with_front : (front : List ℕ) → Result (List ℕ) Fault → Result (List ℕ) Fault
with_front front (Ok text) = Ok (front ++ text)
with_front front (Err fault) = Err fault

-- what the remaining lines give, or the first fault
abbrev pub imported_from : Given → Walk → List (List ℕ) → Result (List ℕ) Fault
imported_from given walk [] = if walk.is_found then Ok (publish_if (is_open walk)) else Err (at 0 NoHart)
imported_from given walk (line ∷ more) = elim (line_of given walk line) [
  | Ok said ↦ with_front (said_text given walk said) (imported_from given (behind_said given walk said) more)
  | Err refusal ↦ Err (at walk.line refusal)
]

-- what these lines give, up to the first one at fault
abbrev pub lines_text : Given → Walk → List (List ℕ) → List ℕ
lines_text given walk [] = []
lines_text given walk (line ∷ more) = elim (line_of given walk line) [
  | Ok said ↦ said_text given walk said ++ lines_text given (behind_said given walk said) more
  | Err refusal ↦ []
]

-- before the first line
abbrev pub beginning : Walk
beginning = record { line = 1; reset = 1; pending = 0; is_used = false; is_found = false; shown = 0 }

-- the script of a log with these lines
abbrev pub imported : Given → List (List ℕ) → Result (List ℕ) Fault
imported given lines = with_front (head_text given) (imported_from given beginning lines)

-- what the first lines of a log give: the head, and the script lines for each, up to the first one at fault
abbrev pub front_text : Given → (front : List (List ℕ)) → List ℕ
front_text given front = head_text given ++ lines_text given beginning front
