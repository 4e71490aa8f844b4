-- What the program notes besides an answer: what an import guessed, that a policy has no rows, or an address of 14
-- digits without `0x`, which is read as decimal.
use Rattle.std.specs.Prelude.{ℕ, List, [], ◌++◌, ◌==◌, codes, decimal, Option, Some, None, option_map, if◌then◌else◌}
use Rattle.std.specs.Io.KnownBytes.{Keeps}
use Rattle.pmp_text.specs.Bytes.{AppendsBeginning}
use Rattle.pmp_tool.specs.declared.note.Note.{Note}
use Rattle.pmp_tool.specs.declared.note.Note.TheVariants.{Start, TraceRow, PolicyRow, NoRows, Guessed, Taken, Scripts}
use Rattle.pmp_tool.specs.declared.outcome.Outcome.{Outcome}
use Rattle.pmp_tool.specs.declared.outcome.Outcome.TheVariants.{Decided, Explained, Audited, Judged, Imported}

-- the word START, or the first row, or that there is none
abbrev pub note_of : Outcome → Option Note
note_of (Decided decision check) = if check.is_bare then Some Start else None
note_of (Explained decision is_bare) = if is_bare then Some Start else None
note_of (Audited summary) = option_map TraceRow summary.bare
note_of (Judged summary) = if summary.rows == 0 then Some NoRows else option_map PolicyRow summary.bare
note_of (Imported note) = Some note
note_of _ = None

-- an address that is read as decimal
abbrev pub as_decimal : List ℕ
as_decimal = codes ": 14 digits without 0x are read as decimal; write 0x before a hexadecimal address"

-- if other harts have writes
abbrev pub left_text : (left : ℕ) → List ℕ
left_text left = if left == 0 then [] else codes "; writes of other harts left out: " ++ decimal left

abbrev pub note_text : Note → List ℕ
note_text Start = codes "START" ++ as_decimal
note_text (TraceRow row) = codes "trace row " ++ (decimal row ++ as_decimal)
note_text (PolicyRow row) = codes "policy row " ++ (decimal row ++ as_decimal)
note_text NoRows = codes "the policy has no rows"
note_text (Guessed hart entries left) = codes "hart " ++ (decimal hart ++ (codes ", " ++ (decimal entries
    ++ (codes " entries" ++ left_text left))))
note_text (Taken hart entries) = codes "hart " ++ (decimal hart ++ (codes ", " ++ (decimal entries
    ++ codes " entries, since the log is read once")))
note_text (Scripts count) = codes "scripts written: " ++ decimal count

-- with its LF
abbrev pub note_line : Note → List ℕ
note_line note = codes "pmp: note: " ++ (note_text note ++ codes "\n")

-- the note, or a prefix of it, is appended to known bytes; without a note they stay
abbrev pub NotesIt : Option Note → (before after : Option (List ℕ)) → Type 0
NotesIt None before after = Keeps before after
NotesIt (Some note) before after = AppendsBeginning before after (note_line note)

abbrev pub Notes : Outcome → (before after : Option (List ℕ)) → Type 0
Notes outcome = NotesIt (note_of outcome)
