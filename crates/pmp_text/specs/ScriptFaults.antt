-- What is wrong with a line of a script, given the lines before it.
use Rattle.std.specs.Prelude.{ℕ, ◌+◌, List, [], ◌∷◌, length, filter, filter_map, Bool, true, false, Option, Some, None}
use Rattle.std.specs.Prelude.{Result, Ok, Err, is_some, option_map, nat_lt, if◌then◌else◌}
use Rattle.std.specs.List.{list_any}
use Rattle.std.specs.Option.{option_or}
use Rattle.pmp_core.specs.declared.event.Event.{Event}
use Rattle.pmp_core.specs.declared.event.TheConstants.{BATCH_EVENTS}
use Rattle.pmp_text.specs.declared.flaw.Flaw.{Flaw}
use Rattle.pmp_text.specs.declared.mark.Name.{Name}
use Rattle.pmp_text.specs.declared.refusal.Refusal.TheVariants.{BatchFull, LateHead, OpenMark, Twice, TooMany}
use Rattle.pmp_text.specs.declared.fault.Fault.{Fault}
use Rattle.pmp_text.specs.declared.script.statement.Statement.{Statement}
use Rattle.pmp_text.specs.declared.script.statement.HeadStatement.{HeadStatement}
use Rattle.pmp_text.specs.declared.script.version.Version.{Version}
use Rattle.pmp_text.specs.Heads.{event_flaw, is_same, own_fault, rv32_with}
use Rattle.pmp_text.specs.Marks.{same_name}
use Rattle.pmp_text.specs.Flaws.{at_line, part, as_whole}
use Rattle.pmp_text.specs.declared.script.reader.TheConstants.{MAX_EVENTS}
use Rattle.pmp_text.specs.ScriptLines.{Line, said_by, version_named, version_flaw, version_above}
use Rattle.pmp_text.specs.ScriptEvents.{event_of, is_publish}
use Rattle.pmp_text.specs.declared.script.statement.Statement.TheVariants as statement

-- one more event line, or none since a `publish`
abbrev pub counted : Result Statement Flaw → ℕ → ℕ
counted (Ok (statement.Event event)) count = count + 1
counted (Ok (statement.Publish name)) count = 0
counted _ count = count

-- the number of event lines since the last `publish`, from the nearest line back
abbrev pub open_events : Version → List Line → ℕ
open_events version [] = 0
open_events version (line ∷ before) = counted (said_by version line) (open_events version before)

-- the numbers of events, and of publications, that these lines add
abbrev pub all_events : Version → List Line → ℕ
all_events version before = length (filter_map (event_of version) before)

abbrev pub all_publications : Version → List Line → ℕ
all_publications version before = length (filter (is_publish version) before)

-- an event or a `publish` ends the head
abbrev pub ends_head : Result Statement Flaw → Bool
ends_head (Ok (statement.Event event)) = true
ends_head (Ok (statement.Publish name)) = true
ends_head _ = false

abbrev pub is_over : Version → List Line → Bool
is_over version before = list_any (λ line. ends_head (said_by version line)) before

-- a line gives the same field of the hart, or sets the same register
abbrev pub says_same : HeadStatement → Result Statement Flaw → Bool
says_same says (Ok (statement.Head other)) = is_same says other
says_same says _ = false

abbrev pub is_said : Version → List Line → HeadStatement → Bool
is_said version before says = list_any (λ line. says_same says (said_by version line)) before

-- a line gives a moment this name
abbrev pub names_same : Name → Result Statement Flaw → Bool
names_same name (Ok (statement.Publish (Some other))) = same_name name other
names_same name (Ok (statement.Mark other)) = same_name name other
names_same name _ = false

abbrev pub is_marked : Version → List Line → Name → Bool
is_marked version before name = list_any (λ line. names_same name (said_by version line)) before

-- whether XLEN is 32 by the lines before, from the nearest back
abbrev pub rv32_behind : Result Statement Flaw → Bool → Bool
rv32_behind (Ok (statement.Head says)) before = rv32_with says before
rv32_behind _ before = before

abbrev pub is_rv32 : Version → List Line → Bool
is_rv32 version [] = false
is_rv32 version (line ∷ before) = rv32_behind (said_by version line) (is_rv32 version before)

-- a line of the head is at fault if the head is over, or the same was given, or there is no such hart
abbrev pub head_fault : (over said : Bool) → HeadStatement → Option Flaw
head_fault over said says = if over then Some (as_whole LateHead) else (if said then Some (part 1 Twice) else own_fault says)

-- a name that was given before is at fault, and a `mark` after unpublished events
abbrev pub name_fault : (marked : Name → Bool) → Option Name → Option Flaw
name_fault marked None = None
name_fault marked (Some name) = if marked name then Some (part 1 Twice) else None

-- one publication too many
abbrev pub publish_fault : (marked : Name → Bool) → Option Name → (all : ℕ) → Option Flaw
publish_fault marked name all =
    option_or (name_fault marked name) (if nat_lt all MAX_EVENTS then None else Some (as_whole TooMany))

abbrev pub mark_fault : (count : ℕ) → (marked : Bool) → Option Flaw
mark_fault count marked =
    if nat_lt 0 count then Some (as_whole OpenMark) else (if marked then Some (part 1 Twice) else None)

-- an event is at fault if the hart doesn't have what it writes, or as many are open before it as a batch may have, or
-- there are as many before it as a script may have
abbrev pub event_fault : Option Flaw → (unpublished all : ℕ) → Option Flaw
event_fault (Some flaw) unpublished all = Some flaw
event_fault None unpublished all =
    if nat_lt unpublished BATCH_EVENTS then (if nat_lt all MAX_EVENTS then None else Some (as_whole TooMany))
    else Some (as_whole BatchFull)

-- what the lines before give: the fault of an event, the numbers of unpublished events, of events and of publications,
-- whether the head is over, and what was given and which names
pub record Behind : Type 0 where
  pub of_event : Event → Option Flaw
  pub unpublished : ℕ
  pub events : ℕ
  pub publications : ℕ
  pub over : Bool
  pub said : HeadStatement → Bool
  pub marked : Name → Bool

-- a line that is no statement is at fault itself
abbrev pub statement_fault : Behind → Result Statement Flaw → Option Flaw
statement_fault behind (Err flaw) = Some flaw
statement_fault behind (Ok (statement.Publish name)) = publish_fault behind.marked name behind.publications
statement_fault behind (Ok (statement.Mark name)) = mark_fault behind.unpublished (behind.marked name)
statement_fault behind (Ok (statement.Event event)) = event_fault (behind.of_event event) behind.unpublished behind.events
statement_fault behind (Ok (statement.Head says)) = head_fault behind.over (behind.said says) says
statement_fault behind (Ok (statement.Expect register value)) = None

abbrev pub behind : Version → (before : List Line) → Behind
behind version before = record {
  of_event = event_flaw version (is_rv32 version before);
  unpublished = open_events version before;
  events = all_events version before;
  publications = all_publications version before;
  over = is_over version before;
  said = is_said version before;
  marked = is_marked version before;
}

abbrev pub fault_behind : Version → (before : List Line) → Line → Option Flaw
fault_behind version before line = statement_fault (behind version before) (said_by version line)

-- the fault of a significant line, by its words and the significant lines before it, the nearest first
abbrev pub line_fault : (before : List Line) → Line → Option Flaw
line_fault [] line = if is_some (version_named line.words) then None else Some (version_flaw line.words)
line_fault (last ∷ before) line = fault_behind (version_above (last ∷ before)) (last ∷ before) line

-- the fault of the first line that has one
abbrev pub first_fault : (before : List Line) → List Line → Option Fault
first_fault before [] = None
first_fault before (line ∷ more) =
    option_or (option_map (at_line line.number) (line_fault before line)) (first_fault (line ∷ before) more)
