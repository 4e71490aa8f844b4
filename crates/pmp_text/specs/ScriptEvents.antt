-- What the lines of a script add: events and publications, a head, expectations, and names of moments.
use Rattle.std.specs.Prelude.{ℕ, ◌+◌, List, [], ◌∷◌, ◌++◌, map, filter_map, find, Bool, true, false, Option, Some, None}
use Rattle.std.specs.Prelude.{Result, Ok, is_some, option_map}
use Rattle.std.specs.List.{slice_split}
use Rattle.pmp_core.specs.declared.event.Event.{Event}
use Rattle.pmp_text.specs.declared.expectation.Expectation.{Expectation}
use Rattle.pmp_text.specs.declared.flaw.Flaw.{Flaw}
use Rattle.pmp_text.specs.declared.mark.Mark.{Mark}
use Rattle.pmp_text.specs.declared.mark.Name.{Name}
use Rattle.pmp_text.specs.declared.script.statement.Statement.{Statement}
use Rattle.pmp_text.specs.declared.script.head.HeadLine.{HeadLine}
use Rattle.pmp_text.specs.declared.script.version.Version.{Version}
use Rattle.pmp_text.specs.Contents.{Publications}
use Rattle.pmp_text.specs.ScriptLines.{Line, said_by}
use Rattle.pmp_text.specs.declared.script.statement.Statement.TheVariants as statement

-- the event that a line adds, if any
abbrev pub event_in : Result Statement Flaw → Option Event
event_in (Ok (statement.Event event)) = Some event
event_in _ = None

abbrev pub event_of : Version → Line → Option Event
event_of version line = event_in (said_by version line)

-- the number of a line that adds an event
abbrev pub event_line_of : Version → Line → Option ℕ
event_line_of version line = option_map (λ _. line.number) (event_of version line)

abbrev pub publishes : Result Statement Flaw → Bool
publishes (Ok (statement.Publish name)) = true
publishes _ = false

abbrev pub is_publish : Version → Line → Bool
is_publish version line = publishes (said_by version line)

abbrev pub but_last : {X : Type 0} → List X → List X
but_last [] = []
but_last (x ∷ []) = []
but_last (x ∷ next ∷ more) = x ∷ but_last (next ∷ more)

abbrev pub last_piece : List (List Line) → List Line
last_piece [] = []
last_piece (piece ∷ []) = piece
last_piece (piece ∷ next ∷ more) = last_piece (next ∷ more)

-- the publications: the events of the pieces between `publish` lines, except the last piece
abbrev pub publications : Version → List Line → Publications
publications version lines =
    let pieces = but_last (slice_split (is_publish version) lines) in
    record {
      batches = map (filter_map (event_of version)) pieces;
      lines = map (filter_map (event_line_of version)) pieces;
    }

-- the number of the first event line after the last `publish`
abbrev pub first_unpublished : Version → List Line → Option ℕ
first_unpublished version lines =
    option_map (λ line. line.number)
    (find (λ line. is_some (event_of version line)) (last_piece (slice_split (is_publish version) lines)))

abbrev pub head_line_in : (number : ℕ) → Result Statement Flaw → Option HeadLine
head_line_in number (Ok (statement.Head says)) = Some (record { line = number; statement = says })
head_line_in number _ = None

-- the lines of the head
abbrev pub head_lines : Version → List Line → List HeadLine
head_lines version lines = filter_map (λ line. head_line_in line.number (said_by version line)) lines

-- what these lines expect, after `events` events
abbrev pub expected_by : (events number : ℕ) → Result Statement Flaw → (later : ℕ → List Expectation)
    → List Expectation
expected_by events number (Ok (statement.Event event)) later = later (events + 1)
expected_by events number (Ok (statement.Expect register value)) later =
    record { register = register; value = value; line = number; events = events } ∷ later events
expected_by events number _ later = later events

abbrev pub expected_from : Version → (events : ℕ) → List Line → List Expectation
expected_from version events [] = []
expected_from version events (line ∷ more) =
    expected_by events line.number (said_by version line) (λ events. expected_from version events more)

-- a moment after `done` publications, if it has a name
abbrev pub mark_at : Option Name → (done : ℕ) → List Mark
mark_at None done = []
mark_at (Some name) done = record { name = name; done = done } ∷ []

-- the moments that these lines name, after `done` publications
abbrev pub marks_by : (done : ℕ) → Result Statement Flaw → (later : ℕ → List Mark) → List Mark
marks_by done (Ok (statement.Publish name)) later = mark_at name (done + 1) ++ later (done + 1)
marks_by done (Ok (statement.Mark name)) later = mark_at (Some name) done ++ later done
marks_by done _ later = later done

abbrev pub marks_from : Version → (done : ℕ) → List Line → List Mark
marks_from version done [] = []
marks_from version done (line ∷ more) =
    marks_by done (said_by version line) (λ done. marks_from version done more)
