-- The events of a script, and the lines of those that change something.
use Rattle.std.specs.Prelude.{ℕ, ◌+◌, ◌==◌, Bool, not, ◌||◌, List, [], ◌∷◌, map, slice_index}
use Rattle.std.specs.List.{filter, flat_map, range_with_len, slice_index_or}
use Rattle.pmp_core.specs.declared.event.Event.{Event}
use Rattle.pmp_core.specs.Configuration.{bit_of, byte_of}
use Rattle.pmp_core.specs.RegisterFile.{RegisterFile, entry_at}
use Rattle.pmp_core.specs.RegisterWrite.{step}
use Rattle.pmp_text.specs.Contents.{ScriptContents}
use Rattle.pmp_text.specs.Reports.{file_of_script}
use Rattle.pmp_lint.specs.declared.subject.Subject.{Subject}
use Rattle.pmp_lint.specs.declared.subject.Subject.TheVariants.{Bypass, Lockdown, Entry, Configuration, Address}

-- an event, the register file before it, and the number of its line
pub record Happening : Type 0 where
  pub before : RegisterFile
  pub event : Event
  pub line : ℕ

abbrev pub file_after : Happening → RegisterFile
file_after it = step it.before it.event

-- these events from this file on; the first has line number k of these
abbrev pub happenings_from : (k : ℕ) → RegisterFile → List Event → (lines : List ℕ) → List Happening
happenings_from k file [] lines = []
happenings_from k file (event ∷ events) lines =
    record { before = file; event = event; line = slice_index lines k }
    ∷ happenings_from (k + 1) (step file event) events lines

-- those of the publication with this index
abbrev pub happenings_in : ScriptContents → (index : ℕ) → List Happening
happenings_in script index =
    happenings_from 0 (file_of_script script index) (slice_index_or script.batches index [])
    (slice_index_or script.lines index [])

-- those of the first `count` publications
abbrev pub happenings : ScriptContents → (count : ℕ) → List Happening
happenings script count = flat_map (happenings_in script) (range_with_len 0 count)

-- ---- what changes

-- entry i's configuration byte, and the word address stored in its pmpaddr (3.7.1)
abbrev pub byte_at : RegisterFile → (i : ℕ) → ℕ
byte_at file i = byte_of (entry_at file.entries i).configuration

abbrev pub address_at : RegisterFile → (i : ℕ) → ℕ
address_at file i = (entry_at file.entries i).address

-- the subject differs after the event
abbrev pub differs : Subject → (before after : RegisterFile) → Bool
differs Bypass before after = not (bit_of before.mseccfg.rlb == bit_of after.mseccfg.rlb)
differs Lockdown before after =
    not (bit_of before.mseccfg.mml == bit_of after.mseccfg.mml)
    || not (bit_of before.mseccfg.mmwp == bit_of after.mseccfg.mmwp)
differs (Entry i) before after =
    not (byte_at before i == byte_at after i) || not (address_at before i == address_at after i)
differs (Configuration i) before after = not (byte_at before i == byte_at after i)
differs (Address i) before after = not (address_at before i == address_at after i)

abbrev pub changes : Subject → Happening → Bool
changes subject it = differs subject it.before (file_after it)

-- the last of these, or the other one if there is none
abbrev pub last_or : ℕ → List ℕ → ℕ
last_or other [] = other
last_or other (x ∷ xs) = last_or x xs

-- the lines of those that change it
abbrev pub changing_lines : Subject → List Happening → List ℕ
changing_lines subject all = map (λ it. it.line) (filter (changes subject) all)

-- the line of the last event that changes it, of the first `count` publications, or 0
abbrev pub changed_at : ScriptContents → (count : ℕ) → Subject → ℕ
changed_at script count subject = last_or 0 (changing_lines subject (happenings script count))
