-- How a debugger's line that shows a register is read.
use Rattle.std.specs.Prelude.{ℕ, List, [], ◌∷◌, Bool, true, false, ◌&&◌, ◌||◌, ◌==◌, slice_index, Option, Some, None, Result}
use Rattle.std.specs.Prelude.{Ok, Err, codes, bytes_eq, if◌then◌else◌}
use Rattle.std.specs.List.{list_all}
use Rattle.std.specs.Char.{is_digit}
use Rattle.pmp_core.specs.declared.csr.Csr.{Csr}
use Rattle.pmp_text.specs.declared.refusal.Refusal.{Refusal}
use Rattle.pmp_text.specs.declared.refusal.Refusal.TheVariants.{BadEvent}
use Rattle.pmp_text.specs.Lines.{words}
use Rattle.pmp_text.specs.Names.{register_named}
use Rattle.pmp_text.specs.Numbers.{numeral}
use Rattle.pmp_import.specs.declared.debuggers.Debugger.{Debugger}
use Rattle.pmp_import.specs.declared.debuggers.Debugger.TheVariants.{Gdb, OpenOcd, Dump}
use Rattle.pmp_import.specs.declared.said.How.TheVariants.{Show}
use Rattle.pmp_import.specs.declared.said.Said.{Said}
use Rattle.pmp_import.specs.declared.said.Said.TheVariants.{Nothing, Hart, Register}
use Rattle.pmp_import.specs.declared.said.Told.{Told}
use Rattle.pmp_import.specs.Said.{and_then, behind, hex_number, is_of_rv32, names_register}

-- ---- a register

-- the register with this name if XLEN is 32, or 64
unfoldable pub csr_named : (is_rv32 : Bool) → List ℕ → Option Csr
csr_named is_rv32 name = if names_register name
    then (elim (register_named is_rv32 name) [ Ok csr ↦ Some csr | Err refusal ↦ None ]) else None

-- a name and a value, of a hart whose XLEN is shown as 32, or may be either
unfoldable pub shown : (is_of_32 : Bool) → Option Csr → (value : List ℕ) → Option Told
shown is_of_32 csr value =
    and_then csr (λ register. and_then (hex_number value) (λ held. Some (record {
      hart = None;
      how = Show;
      register = register;
      value = held;
      is_rv32 = is_of_32 || is_of_rv32 register;
    })))

-- only digits and minus signs
abbrev pub is_decimal : List ℕ → Bool
is_decimal word = list_all (λ byte. is_digit byte 10 || byte == 45) word

-- pmpcfg0        0x9b0f888b8d1b   170491017661723
unfoldable pub gdb_shown : List (List ℕ) → Option Told
gdb_shown (name ∷ value ∷ []) = shown false (csr_named true name) value
gdb_shown (name ∷ value ∷ decimal ∷ []) = if is_decimal decimal then shown false (csr_named true name) value else None
gdb_shown _ = None

-- pmpcfg0 0x00009b0f888b8d1b
unfoldable pub dump_shown : List (List ℕ) → Option Told
dump_shown (name ∷ value ∷ []) = shown false (csr_named true name) value
dump_shown _ = None

-- the register's size, after its name: (/64): or (/32):
unfoldable pub sized_shown : (name size value : List ℕ) → Option Told
sized_shown name size value =
    if bytes_eq size (codes "(/64):") then shown false (csr_named false name) value
    else (if bytes_eq size (codes "(/32):") then shown true (csr_named true name) value else None)

-- pmpcfg0 (/64): 0x00009b0f888b8d1b, perhaps followed by (dirty)
unfoldable pub size_shown : List (List ℕ) → Option Told
size_shown (name ∷ size ∷ value ∷ []) = sized_shown name size value
size_shown (name ∷ size ∷ value ∷ dirty ∷ []) =
    if bytes_eq dirty (codes "(dirty)") then sized_shown name size value else None
size_shown _ = None

-- perhaps after its number, such as (4132)
unfoldable pub openocd_shown : List (List ℕ) → Option Told
openocd_shown [] = None
openocd_shown (word ∷ more) = if slice_index word 0 == 40 then size_shown more else size_shown (word ∷ more)

abbrev pub shown_by : Debugger → List (List ℕ) → Option Told
shown_by Gdb words = gdb_shown words
shown_by OpenOcd words = openocd_shown words
shown_by Dump words = dump_shown words

-- ---- a line

abbrev pub is_prompt : List ℕ → Bool
is_prompt word = bytes_eq word (codes "(gdb)") || bytes_eq word (codes ">")

-- the words after prompts
abbrev pub behind_prompts : List (List ℕ) → List (List ℕ)
behind_prompts [] = []
behind_prompts (word ∷ more) = if is_prompt word then behind_prompts more else word ∷ more

-- what is typed after a prompt, and the reply if a register isn't known
abbrev pub is_typed : List (List ℕ) → Bool
is_typed [] = false
is_typed (word ∷ more) = is_prompt word || bytes_eq word (codes "Invalid")

-- Thread 2 (Thread 1.2 (CPU#1 [halted ])):
unfoldable pub thread_said : List (List ℕ) → Result Said Refusal
thread_said (word ∷ number ∷ opening ∷ id ∷ cpu ∷ more) =
    if bytes_eq word (codes "Thread") && bytes_eq opening (codes "(Thread")
    then (elim (and_then (behind (codes "(CPU#") cpu) (numeral 10 20)) [
      | Some hart ↦ Ok (Hart hart)
      | None ↦ Err BadEvent
    ]) else Ok Nothing
thread_said _ = Ok Nothing

-- a line that names a register shows it, is typed, or is refused; any other may be the head of a thread
unfoldable pub debugger_said : Debugger → List ℕ → Result Said Refusal
debugger_said debugger line =
    if names_register line
    then (elim (shown_by debugger (behind_prompts (words line))) [
      | Some told ↦ Ok (Register told)
      | None ↦ if is_typed (words line) then Ok Nothing else Err BadEvent
    ]) else thread_said (words line)
