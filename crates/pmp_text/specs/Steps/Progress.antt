-- Reading a script line by line, after its first significant line.
use Rattle.std.specs.Prelude.{ℕ, List, [], ◌∷◌, ◌++◌, length, Option, Some, None, Result, Ok, Err, unwrap_or}
use Rattle.std.specs.Prelude.{◌+◌, Bool, true, false, fold}
use Rattle.std.specs.List.{list_any}
use Rattle.pmp_core.specs.declared.csr.Csr.{Csr}
use Rattle.pmp_core.specs.Hart.{profile_of}
use Rattle.pmp_core.specs.Histories.{joined}
use Rattle.pmp_core.specs.RegisterFile.{RegisterFile, reset_file}
use Rattle.pmp_core.specs.RegisterWrite.{step}
use Rattle.pmp_core.specs.declared.event.Event.{Event}
use Rattle.pmp_text.specs.declared.flaw.Flaw.{Flaw}
use Rattle.pmp_text.specs.declared.refusal.Refusal.TheVariants.{Unpublished}
use Rattle.pmp_text.specs.declared.fault.Fault.{Fault}
use Rattle.pmp_text.specs.declared.script.statement.Statement.{Statement}
use Rattle.pmp_text.specs.declared.script.statement.Statement.TheVariants as statement
use Rattle.pmp_text.specs.declared.script.statement.HeadStatement.{HeadStatement}
use Rattle.pmp_text.specs.declared.script.head.HeadLine.{HeadLine}
use Rattle.pmp_text.specs.declared.script.version.Version.{Version}
use Rattle.pmp_text.specs.declared.script.version.Version.TheVariants.{Sized, Headed}
use Rattle.pmp_text.specs.declared.expectation.Expectation.{Expectation}
use Rattle.pmp_text.specs.declared.mark.Mark.{Mark}
use Rattle.pmp_text.specs.declared.mark.Name.{Name}
use Rattle.pmp_text.specs.Contents.{Publications, ScriptContents}
use Rattle.pmp_text.specs.Heads.{event_flaw, is_same, profile_said}
use Rattle.pmp_text.specs.Longhand.{file_said, longhand}
use Rattle.pmp_text.specs.Marks.{is_in}
use Rattle.pmp_text.specs.ScriptLines.{Line, said_by}
use Rattle.pmp_text.specs.Scripts.{for_head}
use Rattle.pmp_text.specs.ScriptFaults.{event_fault, head_fault, mark_fault, publish_fault}
use Rattle.pmp_text.specs.ScriptEvents.{mark_at}
use Rattle.pmp_text.specs.Flaws.{at_line, as_whole}

-- the publications so far, the events of the open batch and their lines, and the line of the first of them
pub record Progress : Type 0 where
  pub published : Publications
  pub batch : List Event
  pub lines : List ℕ
  pub since : Option ℕ

abbrev pub nothing_read : Progress
nothing_read = record { published = record { batches = []; lines = [] }; batch = []; lines = []; since = None }

-- the open batch is published
abbrev pub published : Progress → Progress
published so_far = record {
  published = record {
    batches = so_far.published.batches ++ so_far.batch ∷ [];
    lines = so_far.published.lines ++ so_far.lines ∷ [];
  };
  batch = [];
  lines = [];
  since = None;
}

-- an event is added to the open batch
abbrev pub longer : Progress → ℕ → Event → Progress
longer so_far number event = record {
  published = so_far.published;
  batch = so_far.batch ++ event ∷ [];
  lines = so_far.lines ++ number ∷ [];
  since = Some (unwrap_or so_far.since number);
}

-- ---- the head

-- the lines of the head so far, and whether an event or a `publish` came
pub record HeadSoFar : Type 0 where
  pub lines : List HeadLine
  pub is_over : Bool

abbrev pub no_head : HeadSoFar
no_head = record { lines = []; is_over = false }

abbrev pub over : HeadSoFar → HeadSoFar
over head = record { lines = head.lines; is_over = true }

abbrev pub says_in : List HeadLine → HeadStatement → Bool
says_in lines says = list_any (λ line. is_same says line.statement) lines

abbrev pub longer_head : HeadSoFar → ℕ → HeadStatement → HeadSoFar
longer_head head number says =
    record { lines = head.lines ++ record { line = number; statement = says } ∷ []; is_over = head.is_over }

abbrev pub unless : {X : Type 0} → (number : ℕ) → Option Flaw → X → Result X Fault
unless number (Some flaw) x = Err (at_line number flaw)
unless number None x = Ok x

abbrev pub after_head : HeadSoFar → ℕ → HeadStatement → Result HeadSoFar Fault
after_head head number says =
    unless number (head_fault head.is_over (says_in head.lines says) says) (longer_head head number says)

-- ---- all

-- what was read, the numbers of its events and publications, and the moments with names
pub record Reading : Type 0 where
  pub progress : Progress
  pub head : HeadSoFar
  pub expectations : List Expectation
  pub events : ℕ
  pub marks : List Mark
  pub done : ℕ

-- what was read in the end
pub record Read : Type 0 where
  pub published : Publications
  pub head : List HeadLine
  pub expectations : List Expectation
  pub marks : List Mark

abbrev pub nothing_begun : Reading
nothing_begun =
    record { progress = nothing_read; head = no_head; expectations = []; events = 0; marks = []; done = 0 }

abbrev pub with_publish : Reading → Option Name → Reading
with_publish so_far name = record so_far {
  progress = published so_far.progress;
  head = over so_far.head;
  marks = so_far.marks ++ mark_at name (so_far.done + 1);
  done = so_far.done + 1;
}

abbrev pub with_mark : Reading → Name → Reading
with_mark so_far name = record so_far { marks = so_far.marks ++ mark_at (Some name) so_far.done }

abbrev pub with_event : Reading → ℕ → Event → Reading
with_event so_far number event = record so_far {
  progress = longer so_far.progress number event;
  head = over so_far.head;
  events = so_far.events + 1;
}

abbrev pub with_head : Reading → Result HeadSoFar Fault → Result Reading Fault
with_head so_far (Ok head) = Ok (record so_far { head = head })
with_head so_far (Err fault) = Err fault

abbrev pub with_expected : Reading → ℕ → Csr → ℕ → Reading
with_expected so_far number register value = record so_far {
  expectations = so_far.expectations
      ++ record { register = register; value = value; line = number; events = so_far.events } ∷ [];
}

abbrev pub after_event : Version → Reading → ℕ → Event → Result Reading Fault
after_event version so_far number event =
    let flaw = event_flaw version (profile_said so_far.head.lines).is_rv32 event in
    unless number (event_fault flaw (length so_far.progress.batch) so_far.events) (with_event so_far number event)

-- the result of reading a line with this number and meaning
abbrev pub after_statement : Version → Reading → ℕ → Result Statement Flaw → Result Reading Fault
after_statement version so_far number (Err flaw) = Err (at_line number flaw)
after_statement version so_far number (Ok (statement.Publish name)) =
    unless number (publish_fault (is_in so_far.marks) name so_far.done) (with_publish so_far name)
after_statement version so_far number (Ok (statement.Mark name)) =
    unless number (mark_fault (length so_far.progress.batch) (is_in so_far.marks name)) (with_mark so_far name)
after_statement version so_far number (Ok (statement.Event event)) = after_event version so_far number event
after_statement version so_far number (Ok (statement.Head says)) =
    with_head so_far (after_head so_far.head number says)
after_statement version so_far number (Ok (statement.Expect register value)) =
    Ok (with_expected so_far number register value)

abbrev pub after_line : Version → Reading → Line → Result Reading Fault
after_line version so_far line = after_statement version so_far line.number (said_by version line)

-- what was read when the text ends; the first event line that no `publish` follows is at fault
abbrev pub all_published : Option ℕ → Read → Result Read Fault
all_published None read = Ok read
all_published (Some number) read = Err (at_line number (as_whole Unpublished))

abbrev pub read_in : Reading → Read
read_in so_far = record {
  published = so_far.progress.published;
  head = so_far.head.lines;
  expectations = so_far.expectations;
  marks = so_far.marks;
}

abbrev pub finished : Reading → Result Read Fault
finished so_far = all_published so_far.progress.since (read_in so_far)

-- the result of reading these lines to the end, all of them in longhand
abbrev pub resumed : Version → Reading → List Line → Result Read Fault
resumed version so_far [] = finished so_far
resumed version so_far (line ∷ more) =
    elim (after_line version so_far line) [ Ok next ↦ resumed version next more | Err fault ↦ Err fault ]

-- ---- shorthands

-- the result of reading these lines
abbrev pub after_lines : Version → Reading → List Line → Result Reading Fault
after_lines version so_far [] = Ok so_far
after_lines version so_far (line ∷ more) =
    elim (after_line version so_far line) [ Ok next ↦ after_lines version next more | Err fault ↦ Err fault ]

-- the events so far
abbrev pub events_read : Progress → List Event
events_read so_far = joined so_far.published.batches ++ so_far.batch

-- the register file after them
abbrev pub file_now : Reading → RegisterFile
file_now so_far = fold step (file_said so_far.head.lines) (events_read so_far.progress)

abbrev pub longhand_now : Version → Reading → Line → List Line
longhand_now (Sized size) so_far line = line ∷ []
longhand_now Headed so_far line = longhand (file_now so_far) line

-- the result of reading these lines to the end, each put in longhand
abbrev pub read_on : Version → Reading → List Line → Result Read Fault
read_on version so_far [] = finished so_far
read_on version so_far (line ∷ more) = elim (after_lines version so_far (longhand_now version so_far line)) [
  | Ok next ↦ read_on version next more
  | Err fault ↦ Err fault
]

-- the meaning of a script of which this was read
abbrev pub concluded : Version → Result Read Fault → Result ScriptContents Fault
concluded version (Err fault) = Err fault
concluded (Sized size) (Ok read) = Ok (record {
  size = size;
  start = reset_file (profile_of size);
  batches = read.published.batches;
  lines = read.published.lines;
  expectations = [];
  marks = None;
})
concluded Headed (Ok read) = for_head read.head read.expectations read.marks (Ok read.published)
