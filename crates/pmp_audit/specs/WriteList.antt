-- Output about a script's events, and when it is refused.
use Rattle.std.specs.Prelude.{◌≡◌, ℕ, ◌+◌, ◌==◌, ◌&&◌, Bool, false, not, List, [], ◌++◌, length, map, take, count_by}
use Rattle.std.specs.Prelude.{fold, Ok}
use Rattle.std.specs.List.{enumerate_from, flat_map, range_with_len, slice_index_or, zip}
use Rattle.pmp_core.specs.declared.event.Event.{Event}
use Rattle.pmp_core.specs.declared.event.Event.TheVariants.{Write, Reset}
use Rattle.pmp_core.specs.RegisterFile.{RegisterFile}
use Rattle.pmp_core.specs.RegisterValue.{register_value}
use Rattle.pmp_core.specs.RegisterWrite.{step, written}
use Rattle.pmp_text.specs.Cells.{RowValue}
use Rattle.pmp_text.specs.Contents.{ScriptContents}
use Rattle.pmp_text.specs.Effects.{effect_row}
use Rattle.pmp_text.specs.Scripts.{script_meaning}
use Rattle.pmp_audit.specs.AcceptedReasons.{has_other_reason}
use Rattle.pmp_audit.specs.declared.write_list.EventSummary.{EventSummary}
use Rattle.pmp_audit.specs.declared.write_list.WriteSummary.{WriteSummary}
use Rattle.pmp_audit.specs.Expectations.{differing, expected_rows}

-- an event of a script, with the numbers of its publication and its line
pub record PlacedEvent : Type 0 where
  pub publication : ℕ
  pub line : ℕ
  pub event : Event

-- the events of the publication with this number, on these lines
unfoldable pub placed : (publication : ℕ) → (lines : List ℕ) → List Event → List PlacedEvent
placed publication lines events =
    map (λ (line, event). record { publication = publication; line = line; event = event }) (zip lines events)

-- the events of the first publications, numbered from 1
abbrev pub events_of : ScriptContents → (count : ℕ) → List PlacedEvent
events_of script count =
    flat_map (λ index.
    placed (index + 1) (slice_index_or script.lines index []) (slice_index_or script.batches index []))
    (range_with_len 0 count)

abbrev pub placed_events : ScriptContents → List PlacedEvent
placed_events script = events_of script (length script.batches)

-- the register file after the first k of these events
abbrev pub file_before : (start : RegisterFile) → List PlacedEvent → (k : ℕ) → RegisterFile
file_before start events k = fold step start (map (λ it. it.event) (take k events))

-- a row for each event, numbered from 1, in the file after the events before it
unfoldable pub event_rows : (start : RegisterFile) → List PlacedEvent → List RowValue
event_rows start events =
    map (λ (k, it).
    effect_row (record { number = k + 1; publication = it.publication; line = it.line })
    (file_before start events k) it.event)
    (enumerate_from 0 events)

-- a write that isn't stored as written, so it has a reason
abbrev pub is_not_stored : RegisterFile → Event → Bool
is_not_stored file (Write csr value) = not (register_value (written file csr value) csr == value)
is_not_stored file Reset = false

-- such a write with a reason that isn't accepted
abbrev pub has_fault : (accepted : List ℕ) → RegisterFile → (line : ℕ) → Event → Bool
has_fault accepted file line (Write csr value) =
    is_not_stored file (Write csr value) && has_other_reason accepted line file csr value
has_fault accepted file line Reset = false

-- the number of events, and of such writes
unfoldable pub event_summary : (accepted : List ℕ) → (start : RegisterFile) → List PlacedEvent → EventSummary
event_summary accepted start events = record {
  events = length events;
  not_stored = count_by (λ (k, it). has_fault accepted (file_before start events k) it.line it.event)
      (enumerate_from 0 events);
}

-- the rows of events, then those of expectations
abbrev pub all_rows : ScriptContents → List RowValue
all_rows script = event_rows script.start (placed_events script) ++ expected_rows script script.expectations

-- the counts of both
abbrev pub write_summary : (accepted : List ℕ) → ScriptContents → WriteSummary
write_summary accepted script =
    let of_events = event_summary accepted script.start (placed_events script) in
    record {
      events = of_events.events;
      not_stored = of_events.not_stored;
      expectations = length script.expectations;
      differing = differing accepted script script.expectations;
    }

-- the script has these contents, there is a row for each of its events and expectations, and they are counted
pub record WritesSay (accepted : List ℕ) (script : List ℕ) (summary : WriteSummary) (rows : List RowValue)
    : Type 0 where
  pub contents : ScriptContents
  pub script_means : script_meaning script ≡ Ok contents
  pub rows_are : rows ≡ all_rows contents
  pub counted : summary ≡ write_summary accepted contents
