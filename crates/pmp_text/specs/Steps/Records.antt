-- The records that a reader still gives.
use Rattle.std.specs.Borrow.{Bor}
use Rattle.std.specs.Prelude.{◌≡◌, ℕ, ◌+◌, List, [], ◌∷◌, length, Option, Some, None, IsSome, Result}
use Rattle.csv.specs.declared.parser.State.{State}
use Rattle.csv.specs.declared.reader.Reader.{Reader}
use Rattle.csv.specs.declared.reader.Trim.TheVariants as trim
use Rattle.csv.specs.Reading.{Ready, default_config, reader_config, reader_state, reader_trim, records_from, source_of}
use Rattle.pmp_text.specs.declared.flaw.Flaw.{Flaw}
use Rattle.pmp_text.specs.declared.trace.row_fields.RowFields.{RowFields}
use Rattle.pmp_text.specs.Moments.{KnownMoments}
use Rattle.pmp_text.specs.Tables.{records_of}
use Rattle.pmp_text.specs.Traces.{row_in}

-- the records of bytes from a state on
abbrev pub records_behind : State → List ℕ → List (List (List ℕ))
records_behind state bytes = records_from default_config (length bytes + 1) state bytes

abbrev pub records_known : State → Option (List ℕ) → List (List (List ℕ))
records_known state None = []
records_known state (Some bytes) = records_behind state bytes

-- the bytes that a reader of a text has left
abbrev pub bytes_left : Reader (Bor (List ℕ)) → Option (List ℕ)
bytes_left reader = source_of (λ rest. Some rest.now) reader

abbrev pub records_left : Reader (Bor (List ℕ)) → List (List (List ℕ))
records_left reader = records_known (reader_state reader) (bytes_left reader)

-- a reader with the defaults reads a text
pub record IsReading (reader : Reader (Bor (List ℕ))) : Type 0 where
  pub ready : Ready reader
  pub config : reader_config reader ≡ default_config
  pub untrimmed : reader_trim reader ≡ trim.None
  pub known : IsSome (bytes_left reader)

-- the records that are left, and the fields of the one that was read
pub record RecordsLeft : Type 0 where
  pub left : List (List (List ℕ))
  pub fields : List (List ℕ)

-- the records of the lines that are left, or if none are read as lines, the records that are left
abbrev pub lines_or : Option (Bor (List ℕ)) → (left : List (List (List ℕ))) → List (List (List ℕ))
lines_or (Some lines) left = records_of lines.now
lines_or None left = left

-- for a script with these moments, the next record means this, and the others follow it
abbrev pub IsNext : KnownMoments → (before : List (List (List ℕ))) → Result RowFields Flaw
    → (after : List (List (List ℕ))) → Type 0
IsNext moments before said after =
    (fields : List (List ℕ)) × (before ≡ fields ∷ after) × (row_in moments fields ≡ said)
