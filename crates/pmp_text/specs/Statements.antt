-- What one line of a script means.
use Rattle.std.specs.Prelude.{ℕ, List, [], ◌∷◌, Bool, true, false, ◌==◌, Option, Some, None, Result, Ok, Err, codes}
use Rattle.std.specs.Prelude.{bytes_eq, nat_lt, position, if◌then◌else◌}
use Rattle.pmp_core.specs.declared.csr.Csr.{Csr}
use Rattle.pmp_core.specs.declared.event.Event.TheVariants.{Write, Reset}
use Rattle.pmp_text.specs.declared.flaw.Flaw.{Flaw}
use Rattle.pmp_text.specs.declared.refusal.Refusal.{Refusal}
use Rattle.pmp_text.specs.declared.refusal.Refusal.TheVariants.{BadLine, BadMark, BadNumber, BadEntries, BadBits, BadGrain}
use Rattle.pmp_text.specs.declared.script.hart_field.HartField.{HartField}
use Rattle.pmp_text.specs.declared.script.hart_field.HartField.TheVariants.{Xlen, Entries, Grain, Bits, Smepmp}
use Rattle.pmp_text.specs.declared.script.hart_field.TheConstants.{GRAINS}
use Rattle.pmp_text.specs.declared.script.statement.HeadStatement.TheVariants.{Hart, Set}
use Rattle.pmp_text.specs.declared.script.statement.Statement.{Statement}
use Rattle.pmp_text.specs.declared.script.statement.Statement.TheVariants as statement
use Rattle.pmp_text.specs.declared.mark.Name.{Name}
use Rattle.pmp_text.specs.declared.script.version.Version.{Version}
use Rattle.pmp_text.specs.declared.script.version.Version.TheVariants.{Sized, Headed}
use Rattle.pmp_text.specs.Numbers.{word_number}
use Rattle.pmp_text.specs.Names.{register_named}
use Rattle.pmp_text.specs.Marks.{name_said}
use Rattle.pmp_text.specs.Flaws.{and_then, part, as_whole}

-- ---- a register and a value

-- two operands; at fault is the first extra one, or the whole line if one is missing
abbrev pub two_of : List (List ℕ) → Result (List ℕ × List ℕ) Flaw
two_of (name ∷ value ∷ []) = Ok (name, value)
two_of (name ∷ value ∷ word ∷ more) = Err (part 3 BadLine)
two_of _ = Err (as_whole BadLine)

-- a faulty name comes before a faulty value
abbrev pub assigned : Result Csr Refusal → Option ℕ → Result (Csr × ℕ) Flaw
assigned (Err kind) value = Err (part 1 kind)
assigned (Ok csr) None = Err (part 2 BadNumber)
assigned (Ok csr) (Some value) = Ok (csr, value)

-- versions 1 and 2 are for RV64; in version 3 the head decides which registers of RV32 the hart has
abbrev pub has_rv32 : Version → Bool
has_rv32 (Sized size) = false
has_rv32 Headed = true

-- a name and a value, and nothing else
abbrev pub assignment : Version → List (List ℕ) → Result (Csr × ℕ) Flaw
assignment version operands = and_then (two_of operands) (λ (name, value).
    assigned (register_named (has_rv32 version) name) (word_number value))

abbrev pub write_statement : Version → List (List ℕ) → Result Statement Flaw
write_statement version operands =
    and_then (assignment version operands) (λ (csr, value). Ok (statement.Event (Write csr value)))

abbrev pub set_statement : List (List ℕ) → Result Statement Flaw
set_statement operands = and_then (assignment Headed operands) (λ (csr, value). Ok (statement.Head (Set csr value)))

abbrev pub expect_statement : List (List ℕ) → Result Statement Flaw
expect_statement operands = and_then (assignment Headed operands) (λ (csr, value). Ok (statement.Expect csr value))

-- ---- the hart

-- a number below 256; a larger one is refused as `kind`
abbrev pub byte_number : Refusal → List ℕ → Result ℕ Refusal
byte_number kind word = elim (word_number word) [
  | Some number ↦ if nat_lt number 256 then Ok number else Err kind
  | None ↦ Err BadNumber
]

-- G for a grain in bytes, which must be one of those possible
abbrev pub grain_number : List ℕ → Result ℕ Refusal
grain_number word = elim (word_number word) [
  | Some number ↦ elim (position (λ grain. grain == number) GRAINS) [ Some place ↦ Ok place | None ↦ Err BadGrain ]
  | None ↦ Err BadNumber
]

-- `yes` or `no`
abbrev pub smepmp_field : List ℕ → Result HartField Refusal
smepmp_field word =
    if bytes_eq word (codes "yes") then Ok (Smepmp true)
    else (if bytes_eq word (codes "no") then Ok (Smepmp false) else Err BadLine)

-- `32` or `64`
abbrev pub xlen_field : List ℕ → Result HartField Refusal
xlen_field word =
    if bytes_eq word (codes "32") then Ok (Xlen true)
    else (if bytes_eq word (codes "64") then Ok (Xlen false) else Err BadLine)

abbrev pub numbered : (ℕ → HartField) → Result ℕ Refusal → Result HartField Refusal
numbered field (Ok number) = Ok (field number)
numbered field (Err kind) = Err kind

-- `xlen`, `entries`, `grain`, `bits` or `smepmp`, and its value
abbrev pub field_named : (name value : List ℕ) → Option (Result HartField Refusal)
field_named name value =
    if bytes_eq name (codes "entries") then Some (numbered (λ n. Entries n) (byte_number BadEntries value))
    else (if bytes_eq name (codes "grain") then Some (numbered (λ n. Grain n) (grain_number value))
    else (if bytes_eq name (codes "bits") then Some (numbered (λ n. Bits n) (byte_number BadBits value))
    else (if bytes_eq name (codes "smepmp") then Some (smepmp_field value)
    else (if bytes_eq name (codes "xlen") then Some (xlen_field value) else None))))

-- the value is at fault, or else the name
abbrev pub field_of : (name value : List ℕ) → Result HartField Flaw
field_of name value = elim (field_named name value) [
  | Some (Ok field) ↦ Ok field
  | Some (Err kind) ↦ Err (part 2 kind)
  | None ↦ Err (part 1 BadLine)
]

abbrev pub hart_statement : List (List ℕ) → Result Statement Flaw
hart_statement operands = and_then (two_of operands) (λ (name, value). and_then (field_of name value) (λ field.
    Ok (statement.Head (Hart field))))

-- ---- all lines

-- a statement of one word has no operands
abbrev pub without_operands : Statement → List (List ℕ) → Result Statement Flaw
without_operands statement [] = Ok statement
without_operands statement (word ∷ more) = Err (part 1 BadLine)

-- a moment's name, or none, and nothing else
abbrev pub name_of : List (List ℕ) → Result (Option Name) Flaw
name_of [] = Ok None
name_of (word ∷ []) = elim (name_said word) [ Some name ↦ Ok (Some name) | None ↦ Err (part 1 BadMark) ]
name_of (word ∷ next ∷ more) = Err (part 2 BadLine)

-- in version 3 `publish` may name the moment after it
abbrev pub publish_statement : Version → List (List ℕ) → Result Statement Flaw
publish_statement (Sized size) operands = without_operands (statement.Publish None) operands
publish_statement Headed operands = elim (name_of operands) [ Ok name ↦ Ok (statement.Publish name) | Err flaw ↦ Err flaw ]

-- `mark` names the moment here
abbrev pub mark_statement : List (List ℕ) → Result Statement Flaw
mark_statement operands = elim (name_of operands) [
  | Ok (Some name) ↦ Ok (statement.Mark name)
  | Ok None ↦ Err (as_whole BadLine)
  | Err flaw ↦ Err flaw
]

-- what only version 3 has: `hart` with a field, `set` and `expect` with a register and a value, and `mark` with a name
abbrev pub head_statement : List ℕ → List (List ℕ) → Result Statement Flaw
head_statement word operands =
    if bytes_eq word (codes "hart") then hart_statement operands
    else (if bytes_eq word (codes "set") then set_statement operands
    else (if bytes_eq word (codes "expect") then expect_statement operands
    else (if bytes_eq word (codes "mark") then mark_statement operands else Err (part 0 BadLine))))

abbrev pub further_statement : Version → List ℕ → List (List ℕ) → Result Statement Flaw
further_statement (Sized size) word operands = Err (part 0 BadLine)
further_statement Headed word operands = head_statement word operands

-- the statement of a line, by its words: `write` with a register and a value, `reset`, or `publish`, and in version 3
-- some more
unfoldable pub statement_of : Version → List (List ℕ) → Result Statement Flaw
statement_of version [] = Err (as_whole BadLine)
statement_of version (word ∷ operands) =
    if bytes_eq word (codes "write") then write_statement version operands
    else (if bytes_eq word (codes "reset") then without_operands (statement.Event Reset) operands
    else (if bytes_eq word (codes "publish") then publish_statement version operands
    else further_statement version word operands))
