-- Reading lines, each in longhand, gives what is read of their longhand.
use Rattle.std.proofs.Common.{◌≡◌, List, [], ◌∷◌, ◌++◌, drop, Option, Some, None, Result, Ok, Err, refl, sym, ap, ◌∙◌}
use Rattle.std.proofs.Common.{append_assoc, subst, inl, inr, ◌⊎◌}
use Rattle.std.specs.Prelude.{filter_map, fold}
use Rattle.std.specs.List.{cons_option}
use Rattle.std.proofs.lemmas.List.{append-nil}
use Rattle.std.proofs.lemmas.List.Concat.{flat_map-append}
use Rattle.std.proofs.lemmas.List.Elements.{filter_map-append}
use Rattle.pmp_core.specs.declared.event.Event.{Event}
use Rattle.pmp_core.specs.Histories.{joined}
use Rattle.pmp_core.specs.RegisterFile.{RegisterFile}
use Rattle.pmp_core.specs.RegisterWrite.{step}
use Rattle.pmp_core.specs.declared.size.Size.{Size}
use Rattle.pmp_text.specs.declared.flaw.Flaw.{Flaw}
use Rattle.pmp_text.specs.declared.fault.Fault.{Fault}
use Rattle.pmp_text.specs.declared.script.statement.Statement.{Statement}
use Rattle.pmp_text.specs.declared.script.statement.Statement.TheVariants as statement
use Rattle.pmp_text.specs.declared.script.version.Version.{Version}
use Rattle.pmp_text.specs.declared.script.version.Version.TheVariants.{Sized, Headed}
use Rattle.pmp_text.specs.EventLogs.{Kept}
use Rattle.pmp_text.specs.Lines.{words}
use Rattle.pmp_text.specs.Longhand.{file_behind, file_said, in_longhand, in_place, longhand, longhand_from, written_out}
use Rattle.pmp_text.specs.Outcomes.{Gives, no_memory}
use Rattle.pmp_text.specs.declared.script.shorthand.Writes.{Writes}
use Rattle.pmp_text.specs.ScriptEvents.{event_in, event_of, head_line_in, head_lines}
use Rattle.pmp_text.specs.ScriptLines.{Line, said_by}
use Rattle.pmp_text.specs.Statements.{statement_of}
use Rattle.pmp_text.specs.Steps.Cuts.{cut_from}
use Rattle.pmp_text.specs.Steps.Reading.{IsOpen, progress_of}
use Rattle.pmp_text.specs.Steps.Views.{seen_line}
use Rattle.pmp_text.specs.declared.script.progress.OpenBatch.{OpenBatch}
use Rattle.pmp_text.specs.declared.script.significant.NumberedLine.{NumberedLine}
use Rattle.pmp_text.proofs.Known.{line_taken, with_line}
use Rattle.pmp_text.proofs.Pieces.{joined-cut_from}
use Rattle.pmp_text.specs.Steps.Progress.{Progress, Read, Reading, after_line, after_lines, after_statement}
use Rattle.pmp_text.specs.Steps.Progress.{events_read, file_now, nothing_begun, published, read_on, resumed}
use Rattle.pmp_text.specs.Steps.Progress.{after_event}
use Rattle.pmp_text.specs.Flaws.{at_line}

-- what comes of a step and these lines behind it
abbrev then : Version → List Line → Result Reading Fault → Result Read Fault
then version more step = elim step [ Ok next ↦ resumed version next more | Err fault ↦ Err fault ]

module _ (version : Version) where
  by_step : (these more : List Line) (step : Result Reading Fault)
      → ((next : Reading) → resumed version next (these ++ more) ≡ then version more (after_lines version next these))
      → then version (these ++ more) step
      ≡ then version more (elim step [ Ok next ↦ after_lines version next these | Err fault ↦ Err fault ])
  by_step these more (Ok next) same = same next
  by_step these more (Err fault) same = refl

  in_parts : (these more : List Line) (so_far : Reading)
      → resumed version so_far (these ++ more) ≡ then version more (after_lines version so_far these)
  in_parts [] more so_far = refl
  in_parts (line ∷ these) more so_far =
      by_step these more (after_line version so_far line) (in_parts these more)

-- ---- what stands above a line

record Follows (so_far : Reading) (before : List Line) : Type 0 where
  head : so_far.head.lines ≡ head_lines Headed before
  events : events_read so_far.progress ≡ filter_map (event_of Headed) before

same_file : (so_far : Reading) (before : List Line) → Follows so_far before → file_now so_far ≡ file_behind before
same_file so_far before follows = λ i. fold step (file_said (follows.head i)) (follows.events i)

published_too : (so_far : Progress) → events_read (published so_far) ≡ events_read so_far
published_too so_far =
    append-nil (joined (so_far.published.batches ++ so_far.batch ∷ []))
    ∙ flat_map-append (λ batch. batch) so_far.published.batches (so_far.batch ∷ [])
    ∙ ap (λ (events : List Event). joined so_far.published.batches ++ events) (append-nil so_far.batch)

module _ (so_far : Reading) (before : List Line) (follows : Follows so_far before) (line : Line) where
  -- the line adds what it says
  adds : (next : Reading) (says : Result Statement Flaw) → said_by Headed line ≡ says
      → next.head.lines ≡ so_far.head.lines ++ cons_option (head_line_in line.number says) []
      → events_read next.progress ≡ events_read so_far.progress ++ cons_option (event_in says) []
      → Follows next (before ++ line ∷ [])
  adds next says e heads events = record {
    head = heads ∙ rw (
      filter_map-append (λ (line : Line). head_line_in line.number (said_by Headed line)) before
          (line ∷ []),
      e,
      follows.head,
    ) refl;
    events = events ∙ rw (filter_map-append (event_of Headed) before (line ∷ []), e, follows.events) refl;
  }

  same_head : so_far.head.lines ≡ so_far.head.lines ++ []
  same_head = sym (append-nil so_far.head.lines)

  same_events : events_read so_far.progress ≡ events_read so_far.progress ++ []
  same_events = sym (append-nil (events_read so_far.progress))

  follows_line : (says : Result Statement Flaw) → said_by Headed line ≡ says
      → Follows (with_line Headed so_far line.number says) (before ++ line ∷ [])
  follows_line (Err flaw) e = adds _ _ e same_head same_events
  follows_line (Ok (statement.Publish name)) e =
      adds _ _ e same_head (published_too so_far.progress ∙ same_events)
  follows_line (Ok (statement.Mark name)) e = adds _ _ e same_head same_events
  follows_line (Ok (statement.Event event)) e = adds _ _ e same_head
      (sym (append_assoc (joined so_far.progress.published.batches) so_far.progress.batch (event ∷ [])))
  follows_line (Ok (statement.Head says)) e = adds _ _ e refl same_events
  follows_line (Ok (statement.Expect register value)) e = adds _ _ e same_head same_events

  follows_says : (next : Reading) → after_line Headed so_far line ≡ Ok next → Follows next (before ++ line ∷ [])
  follows_says next made = subst (λ (r : Reading). Follows r (before ++ line ∷ []))
      (line_taken Headed so_far line.number (said_by Headed line) next made).1
      (follows_line (said_by Headed line) refl)

module _ (these : List Line) (later : (so_far : Reading) (before : List Line) → Follows so_far before → (next : Reading)
    → after_lines Headed so_far these ≡ Ok next → Follows next (before ++ these)) where
  follows_step : (line : Line) (so_far : Reading) (before : List Line) → Follows so_far before → (next : Reading)
      (step : Result Reading Fault) → after_line Headed so_far line ≡ step
      → elim step as (λ _. Result Reading Fault) [
        | Ok between ↦ after_lines Headed between these
        | Err fault ↦ Err fault
      ] ≡ Ok next → Follows next (before ++ line ∷ these)
  follows_step line so_far before follows next (Err fault) was e = absurd cc
  follows_step line so_far before follows next (Ok between) was e =
      let here = follows_says so_far before follows line between was in
      let behind = later between (before ++ line ∷ []) here next e in
      record {
        head = behind.head ∙ ap (head_lines Headed) (append_assoc before (line ∷ []) these);
        events = behind.events ∙ ap (filter_map (event_of Headed)) (append_assoc before (line ∷ []) these);
      }

follows_lines : (these : List Line) (so_far : Reading) (before : List Line) → Follows so_far before → (next : Reading)
    → after_lines Headed so_far these ≡ Ok next → Follows next (before ++ these)
follows_lines [] so_far before follows next e =
    let is : so_far ≡ next = cc in
    rw (← is, append-nil) follows
follows_lines (line ∷ these) so_far before follows next e =
    follows_step these (follows_lines these) line so_far before follows next (after_line Headed so_far line) refl e

-- ---- all lines

abbrev on : Version → List Line → Result Reading Fault → Result Read Fault
on version more step = elim step [ Ok next ↦ read_on version next more | Err fault ↦ Err fault ]

goes_on : (rest more : List Line) (step : Result Reading Fault)
    → ((next : Reading) → step ≡ Ok next → resumed Headed next rest ≡ read_on Headed next more)
    → then Headed rest step ≡ on Headed more step
goes_on rest more (Ok next) same = same next refl
goes_on rest more (Err fault) same = refl

reads : (lines : List Line) (so_far : Reading) (before : List Line) → Follows so_far before
    → resumed Headed so_far (longhand_from before lines) ≡ read_on Headed so_far lines
reads [] so_far before follows = refl
reads (line ∷ more) so_far before follows =
    let these = longhand (file_behind before) line in
    in_parts Headed these (longhand_from (before ++ these) more) so_far
    ∙ goes_on (longhand_from (before ++ these) more) more (after_lines Headed so_far these)
    (λ next e. reads more next (before ++ these) (follows_lines these so_far before follows next e))
    ∙ sym (ap (λ (file : RegisterFile). on Headed more (after_lines Headed so_far (longhand file line)))
    (same_file so_far before follows))

one_by_one : (size : Size) (more : List Line) (step : Result Reading Fault)
    → ((next : Reading) → resumed (Sized size) next more ≡ read_on (Sized size) next more)
    → then (Sized size) more step
    ≡ on (Sized size) more (elim step as (λ _. Result Reading Fault) [ Ok next ↦ Ok next | Err fault ↦ Err fault ])
one_by_one size more (Ok next) same = same next
one_by_one size more (Err fault) same = refl

reads_as_it_is : (size : Size) (lines : List Line) (so_far : Reading)
    → resumed (Sized size) so_far lines ≡ read_on (Sized size) so_far lines
reads_as_it_is size [] so_far = refl
reads_as_it_is size (line ∷ more) so_far =
    one_by_one size more (after_line (Sized size) so_far line) (reads_as_it_is size more)

pub reads_longhand : (version : Version) (lines : List Line)
    → resumed version nothing_begun (in_longhand version lines) ≡ read_on version nothing_begun lines
reads_longhand (Sized size) lines = reads_as_it_is size lines nothing_begun
reads_longhand Headed lines = reads lines nothing_begun [] (record { head = refl; events = refl })

-- ---- the reader

-- the log has all events that were read
pub all_read : (kept : Kept) (batch : OpenBatch) → IsOpen kept batch → events_read (progress_of kept batch) ≡ kept.events
all_read kept batch is =
    (λ i. joined (cut_from 0 kept.ends kept.events) ++ drop (is.last i) kept.events)
    ∙ joined-cut_from kept.events 0 kept.ends is.ascending

pub its_words : (version : Version) (line : NumberedLine)
    → said_by version (seen_line line) ≡ statement_of version (words line.bytes.now)
unfolding said_by
its_words (Sized size) line = refl
its_words Headed line = refl

in_place_says : (line : Line) (says : Result Statement Flaw) → said_by Headed (in_place line says) ≡ says
unfolding said_by
in_place_says line says = refl

pub refused_in_place : (so_far : Reading) (line : Line) (flaw : Flaw)
    → after_lines Headed so_far (in_place line (Err flaw) ∷ []) ≡ Err (at_line line.number flaw)
refused_in_place so_far line flaw =
    ap (λ (says : Result Statement Flaw). elim (after_statement Headed so_far line.number says) as (λ _. Result Reading Fault) [
      | Ok next ↦ Ok next
      | Err fault ↦ Err fault
    ]) (in_place_says line (Err flaw))

one_step : (step : Result Reading Fault)
    → elim step as (λ _. Result Reading Fault) [ Ok next ↦ Ok next | Err fault ↦ Err fault ] ≡ step
one_step (Ok next) = refl
one_step (Err fault) = refl

-- events in the place of a line are taken, one after the other
abbrev behind : Line → List Line → Result Reading Fault → Result Reading Fault
behind line more step = elim step [ Ok next ↦ after_lines Headed next more | Err fault ↦ Err fault ]

in_place_too : (so_far : Reading) (line : Line) (event : Event) (more : List Line)
    → after_lines Headed so_far (in_place line (Ok (statement.Event event)) ∷ more)
    ≡ behind line more (after_event Headed so_far line.number event)
in_place_too so_far line event more =
    ap (λ (says : Result Statement Flaw). behind line more (after_statement Headed so_far line.number says))
    (in_place_says line (Ok (statement.Event event)))

one_in_place : (so_far : Reading) (line : Line) (event : Event)
    → after_lines Headed so_far (in_place line (Ok (statement.Event event)) ∷ [])
    ≡ after_event Headed so_far line.number event
one_in_place so_far line event =
    in_place_too so_far line event [] ∙ one_step (after_event Headed so_far line.number event)

module _ (so_far : Reading) (line : Line) (writes : Writes) where
  abbrev read_here : Option Event → Result Reading Fault
  read_here address = after_lines Headed so_far (written_out line (Ok (record { address = address; last = writes.last })))

  abbrev all_here : Result Reading Fault
  all_here = after_lines Headed so_far (written_out line (Ok writes))

  one_write : writes.address ≡ None → all_here ≡ after_event Headed so_far line.number writes.last
  one_write none = ap read_here none ∙ one_in_place so_far line writes.last

  -- an address comes first
  module _ (address : Event) (first : writes.address ≡ Some address) where
    two_writes : all_here ≡ behind line (in_place line (Ok (statement.Event writes.last)) ∷ [])
        (after_event Headed so_far line.number address)
    two_writes = ap read_here first ∙ in_place_too so_far line address (in_place line (Ok (statement.Event writes.last)) ∷ [])

    pub first_refused : (fault : Fault)
        → (after_event Headed so_far line.number address ≡ Err fault) ⊎ (fault ≡ no_memory)
        → (all_here ≡ Err fault) ⊎ (fault ≡ no_memory)
    first_refused fault (inl refused) =
        inl (two_writes ∙ ap (behind line (in_place line (Ok (statement.Event writes.last)) ∷ [])) refused)
    first_refused fault (inr memory) = inr memory

    pub both_taken : {X : Type 0} (view : X → Reading) (result : Result X Fault) (next : Reading)
        → after_event Headed so_far line.number address ≡ Ok next
        → Gives view result (after_event Headed next line.number writes.last) → Gives view result all_here
    both_taken view result next taken given =
        subst (λ (meant : Result Reading Fault). Gives view result meant)
        (sym (two_writes ∙ ap (behind line (in_place line (Ok (statement.Event writes.last)) ∷ [])) taken
        ∙ one_in_place next line writes.last)) given

  pub one_taken : {X : Type 0} (view : X → Reading) (result : Result X Fault) → writes.address ≡ None
      → Gives view result (after_event Headed so_far line.number writes.last) → Gives view result all_here
  one_taken view result none given =
      subst (λ (meant : Result Reading Fault). Gives view result meant) (sym (one_write none)) given

-- a line that stands for itself
pub one_line : (version : Version) (so_far : Reading) (line : NumberedLine)
    → after_lines version so_far (seen_line line ∷ [])
    ≡ after_statement version so_far line.number (statement_of version (words line.bytes.now))
one_line version so_far line =
    one_step (after_line version so_far (seen_line line))
    ∙ ap (after_statement version so_far line.number) (its_words version line)
