-- Lines of version 3 that stand for writes, whose values depend on the registers at that line.
use Rattle.std.specs.Prelude.{ℕ, zero, suc, ◌+◌, ◌-◌, ◌/◌, ◌%◌, ◌^◌, List, [], ◌∷◌, Bool, not, ◌&&◌, ◌==◌, codes}
use Rattle.std.specs.Prelude.{Option, Some, None, Result, Ok, Err, bytes_eq, nat_lt, nat_le, slice_set, bit_and, bit_or}
use Rattle.std.specs.Prelude.{if◌then◌else◌}
use Rattle.std.specs.Int.{w64, bit_not, from_le_bytes, is_power_of_two, to_le_bytes}
use Rattle.pmp_core.specs.declared.access.TheConstants.{ADDRESS_LIMIT}
use Rattle.pmp_core.specs.declared.configuration.AddressMatching.{AddressMatching}
use Rattle.pmp_core.specs.declared.configuration.AddressMatching.TheVariants.{Off, Tor, Na4, Napot}
use Rattle.pmp_core.specs.declared.csr.Csr.{Csr}
use Rattle.pmp_core.specs.declared.csr.Csr.TheVariants.{Addr}
use Rattle.pmp_core.specs.declared.event.Event.{Event}
use Rattle.pmp_core.specs.declared.event.Event.TheVariants.{Write}
use Rattle.pmp_core.specs.declared.size.TheConstants.{MAX_ENTRIES}
use Rattle.pmp_core.specs.Grain.{tor_address}
use Rattle.pmp_core.specs.Hart.{bytes_in}
use Rattle.pmp_core.specs.RegisterFile.{RegisterFile}
use Rattle.pmp_core.specs.RegisterValue.{register_value}
use Rattle.pmp_text.specs.declared.flaw.Flaw.{Flaw}
use Rattle.pmp_text.specs.declared.refusal.Refusal.{Refusal}
use Rattle.pmp_text.specs.declared.refusal.Refusal.TheVariants.{BadEntry, BadLine, BadNumber}
use Rattle.pmp_text.specs.declared.script.shorthand.EntryLine.{EntryLine}
use Rattle.pmp_text.specs.declared.script.shorthand.Place.{Place}
use Rattle.pmp_text.specs.declared.script.shorthand.Shorthand.{Shorthand}
use Rattle.pmp_text.specs.declared.script.shorthand.Shorthand.TheVariants.{SetBits, ClearBits, Entry}
use Rattle.pmp_text.specs.declared.script.shorthand.Writes.{Writes}
use Rattle.pmp_text.specs.declared.script.version.Version.TheVariants.{Headed}
use Rattle.pmp_text.specs.Dumps.{cfg_at}
use Rattle.pmp_text.specs.Flaws.{and_then, as_whole, in_part, part}
use Rattle.pmp_text.specs.Heads.{kept_value}
use Rattle.pmp_text.specs.Numbers.{word_number}
use Rattle.pmp_text.specs.Statements.{assignment}

-- ---- a line about an entry

abbrev pub number_said : List ℕ → Result ℕ Refusal
number_said word = elim (word_number word) [ Some number ↦ Ok number | None ↦ Err BadNumber ]

-- an entry that some hart has
abbrev pub entry_said : List ℕ → Result ℕ Refusal
entry_said word = elim (word_number word) [
  | Some number ↦ if nat_lt number MAX_ENTRIES then Ok number else Err BadEntry
  | None ↦ Err BadNumber
]

-- the field A
abbrev pub matching_said : List ℕ → Result AddressMatching Refusal
matching_said word =
    if bytes_eq word (codes "na4") then Ok Na4
    else (if bytes_eq word (codes "napot") then Ok Napot
    else (if bytes_eq word (codes "tor") then Ok Tor else Err BadLine))

-- R in bit 0, W in 1 and X in 2, as rows write rights
abbrev pub rights_said : List ℕ → Result ℕ Refusal
rights_said word =
    if bytes_eq word (codes "---") then Ok 0
    else (if bytes_eq word (codes "r--") then Ok 1
    else (if bytes_eq word (codes "-w-") then Ok 2
    else (if bytes_eq word (codes "rw-") then Ok 3
    else (if bytes_eq word (codes "--x") then Ok 4
    else (if bytes_eq word (codes "r-x") then Ok 5
    else (if bytes_eq word (codes "-wx") then Ok 6
    else (if bytes_eq word (codes "rwx") then Ok 7 else Err BadLine)))))))

-- L in bit 7, if a last word asks for it
abbrev pub lock_said : List (List ℕ) → Result ℕ Flaw
lock_said [] = Ok 0
lock_said (word ∷ []) = if bytes_eq word (codes "L") then Ok 128 else Err (part 6 BadLine)
lock_said (word ∷ next ∷ more) = Err (part 7 BadLine)

-- A in bits 4 and 3
abbrev pub matching_bits : AddressMatching → ℕ
matching_bits Off = 0
matching_bits Tor = 8
matching_bits Na4 = 16
matching_bits Napot = 24

-- `size` bytes at a multiple of `size`: the word address has a zero bit above size / 8 - 1 (3.7.1.1, NAPOT)
abbrev pub aligned_place : (first size : ℕ) → Result Place Flaw
aligned_place first size =
    if first % size == 0 && nat_le (first + size) ADDRESS_LIMIT
    then Ok (record { address = first / 4 + (size / 8 - 1); low = None }) else Err (part 3 BadEntry)

-- from where the entry before ends
abbrev pub tor_place : (first end : ℕ) → Result Place Flaw
tor_place first end =
    if not (end % 4 == 0 && nat_lt first end && nat_lt end ADDRESS_LIMIT) then Err (part 4 BadEntry)
    else (if first % 4 == 0 then Ok (record { address = end / 4; low = Some (first / 4) }) else Err (part 3 BadEntry))

-- where an entry matches, by its first byte, and its size, or for `tor` the byte after its last
abbrev pub place_said : AddressMatching → (first second : ℕ) → Result Place Flaw
place_said Off first second = Err (part 2 BadLine)
place_said Tor first second = tor_place first second
place_said Na4 first second = if second == 4 then aligned_place first second else Err (part 4 BadEntry)
place_said Napot first second =
    if nat_le 8 second && is_power_of_two second then aligned_place first second else Err (part 4 BadEntry)

unfoldable pub place_words : AddressMatching → (first second : List ℕ) → Result Place Flaw
place_words matching first second =
    in_part 3 (number_said first) (λ first. in_part 4 (number_said second) (λ second. place_said matching first second))

-- the entry's number, and its rights with its lock; faults of form come before that of the number
unfoldable pub rule_said : (number rights : List ℕ) → (lock : List (List ℕ)) → Result (ℕ × ℕ) Flaw
rule_said number rights lock =
    and_then (lock_said lock) (λ lock. in_part 5 (rights_said rights) (λ rights. in_part 1 (entry_said number) (λ number.
    Ok (number, lock + rights))))

-- `entry` I and what it matches, with its rights, and its lock, if any
abbrev pub range_said : (number matching : List ℕ) → List (List ℕ) → Result EntryLine Flaw
range_said number matching (first ∷ second ∷ rights ∷ lock) =
    in_part 2 (matching_said matching) (λ matching. and_then (rule_said number rights lock) (λ rule.
    and_then (place_words matching first second) (λ place. Ok (record {
      number = rule.0;
      configuration = rule.1 + matching_bits matching;
      place = Some place;
    }))))
range_said number matching _ = in_part 2 (matching_said matching) (λ _. Err (as_whole BadLine))

-- an entry that is OFF has no rights and no lock
abbrev pub off_said : (number : List ℕ) → List (List ℕ) → Result EntryLine Flaw
off_said number [] = in_part 1 (entry_said number) (λ number. Ok (record {
  number = number;
  configuration = 0;
  place = None;
}))
off_said number (word ∷ more) = Err (part 3 BadLine)

abbrev pub entry_line : List (List ℕ) → Result EntryLine Flaw
entry_line (number ∷ matching ∷ operands) =
    if bytes_eq matching (codes "off") then off_said number operands else range_said number matching operands
entry_line _ = Err (as_whole BadLine)

-- ---- what a line means

abbrev pub bits_line : (Csr → ℕ → Shorthand) → List (List ℕ) → Result Shorthand Flaw
bits_line bits operands = and_then (assignment Headed operands) (λ assigned. Ok (bits assigned.0 assigned.1))

-- the line is one of these by its first word
unfoldable pub shorthand_of : List (List ℕ) → Option (Result Shorthand Flaw)
shorthand_of [] = None
shorthand_of (word ∷ operands) =
    if bytes_eq word (codes "set-bits") then Some (bits_line (λ csr value. SetBits csr value) operands)
    else (if bytes_eq word (codes "clear-bits") then Some (bits_line (λ csr value. ClearBits csr value) operands)
    else (if bytes_eq word (codes "entry") then Some (and_then (entry_line operands) (λ line. Ok (Entry line))) else None))

-- ---- what it stands for

-- the write of the register with an entry's byte, with the other entries' bytes as they read
abbrev pub byte_write : RegisterFile → (number byte : ℕ) → Event
byte_write file number byte =
    let bytes = bytes_in file.profile 0 in
    let csr = cfg_at file.profile (number / bytes) in
    Write csr (from_le_bytes w64 (slice_set (to_le_bytes w64 (register_value file csr)) (number % bytes) byte))

-- the word address at which a TOR range begins (3.7.1.1)
abbrev pub low_end : RegisterFile → (number : ℕ) → ℕ
low_end file zero = 0
low_end file (suc before) = tor_address file.profile.grain (kept_value file (Addr before))

-- it begins where it must, and the register has all bits of its address
abbrev pub can_stand : RegisterFile → (number : ℕ) → Place → Bool
can_stand file number place =
    elim place.low [ Some low ↦ low == low_end file number | None ↦ Bool.true ]
    && not (file.profile.is_rv32 && nat_le (2 ^ 32) place.address)

-- an entry's address is written, if it has one, and then its byte
abbrev pub entry_writes : RegisterFile → EntryLine → Result Writes Flaw
entry_writes file line =
    let byte = byte_write file line.number line.configuration in
    elim line.place [
      | None ↦ Ok (record { address = None; last = byte })
      | Some place ↦
          if can_stand file line.number place
          then Ok (record { address = Some (Write (Addr line.number) place.address); last = byte })
          else Err (part 3 BadEntry)
    ]

-- the writes of a line in this file: as CSRRS and CSRRC make them, with the bits of a value set or cleared in what the
-- register reads
abbrev pub writes_of : RegisterFile → Shorthand → Result Writes Flaw
writes_of file (SetBits csr value) =
    Ok (record { address = None; last = Write csr (bit_or (register_value file csr) value) })
writes_of file (ClearBits csr value) =
    Ok (record { address = None; last = Write csr (bit_and (register_value file csr) (bit_not w64 value)) })
writes_of file (Entry line) = entry_writes file line
