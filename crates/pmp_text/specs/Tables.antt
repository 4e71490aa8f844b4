-- Texts of rows after a header, such as traces and policies.
use Rattle.std.specs.Prelude.{ℕ, List, [], ◌∷◌, length, Bool, Option, Some, None, Result, Ok, Err}
use Rattle.std.specs.Prelude.{nat_lt, if◌then◌else◌, ◌==◌, ◌||◌}
use Rattle.std.specs.List.{list_any}
use Rattle.csv.specs.Reading.{default_config, records, strip_bom}
use Rattle.pmp_text.specs.declared.refusal.Refusal.TheVariants.{BadHeader, TooLong}
use Rattle.pmp_text.specs.declared.fault.Fault.{Fault}
use Rattle.pmp_text.specs.declared.fault.Source.{Source}
use Rattle.pmp_text.specs.declared.trace.reader.TheConstants.{MAX_TRACE}
use Rattle.pmp_text.specs.Flaws.{at_row, as_whole}

-- the records of a text, each a list of fields, as the crate `csv` reads them with its defaults: no byte-order mark
-- is part of the first one
abbrev pub records_of : List ℕ → List (List (List ℕ))
records_of text = records default_config (strip_bom text)

-- CR and LF
abbrev pub is_line_end : ℕ → Bool
is_line_end byte = (byte == 13) || (byte == 10)

-- a field has a line end, so the record spans several lines
abbrev pub is_broken : List (List ℕ) → Bool
is_broken fields = list_any (λ field. list_any is_line_end field) fields

-- a row's fault, or else what the rows mean
abbrev pub fault_or_rows : {X : Type 0} → Option Fault → List X → Result (List X) Fault
fault_or_rows (Some fault) rows = Err fault
fault_or_rows None rows = Ok rows

-- what records of an input mean whose first one is a header, with the others after it
abbrev pub behind_header : {X : Type 0} → Source → (is_header : List (List ℕ) → Bool)
    → (meaning : List (List (List ℕ)) → Result (List X) Fault) → List (List (List ℕ))
    → Result (List X) Fault
behind_header source is_header meaning [] = Err (at_row source 0 (as_whole BadHeader))
behind_header source is_header meaning (header ∷ rows) =
    if is_header header then meaning rows else Err (at_row source 0 (as_whole BadHeader))

-- what a text means by its records; one of more bytes than the limit is too long, whatever is in it
abbrev pub within_limit : {X : Type 0} → Source → (meaning : List (List (List ℕ)) → Result (List X) Fault) → List ℕ
    → Result (List X) Fault
within_limit source meaning text =
    if nat_lt MAX_TRACE (length text) then Err (at_row source 0 (as_whole TooLong)) else meaning (records_of text)
