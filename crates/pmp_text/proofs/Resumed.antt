-- Reading one line more, and so all of them, gives what is meant by the lines.
use Rattle.std.proofs.Common.{◌≡◌, ℕ, Bool, false, cond, List, [], ◌∷◌, ◌++◌, Option, Some, None, Result, Ok, Err, refl}
use Rattle.std.proofs.Common.{sym, ap, ◌∙◌, append_assoc}
use Rattle.std.specs.Prelude.{option_map}
use Rattle.std.specs.Option.{option_or}
use Rattle.std.specs.List.{cons_option, onto_first}
use Rattle.std.proofs.lemmas.List.{append-nil}
use Rattle.pmp_text.specs.declared.flaw.Flaw.{Flaw}
use Rattle.pmp_text.specs.declared.fault.Fault.{Fault}
use Rattle.pmp_text.specs.declared.script.statement.Statement.{Statement}
use Rattle.pmp_text.specs.declared.script.statement.Statement.TheVariants as statement
use Rattle.pmp_text.specs.declared.expectation.Expectation.{Expectation}
use Rattle.pmp_text.specs.declared.mark.Mark.{Mark}
use Rattle.pmp_text.specs.declared.script.head.HeadLine.{HeadLine}
use Rattle.pmp_text.specs.declared.script.version.Version.{Version}
use Rattle.pmp_text.specs.Contents.{Publications}
use Rattle.pmp_text.specs.ScriptLines.{Line, said_by, version_above}
use Rattle.pmp_text.specs.ScriptFaults.{behind, fault_behind, first_fault, statement_fault}
use Rattle.pmp_text.specs.ScriptEvents.{is_publish, event_in, event_of, expected_by, expected_from, first_unpublished}
use Rattle.pmp_text.specs.ScriptEvents.{head_line_in, head_lines, marks_by, marks_from, publications, publishes}
use Rattle.pmp_text.specs.Scripts.{fault_or_publications}
use Rattle.pmp_text.specs.Steps.Progress.{Progress, published, unless, Reading, Read, nothing_begun, with_expected}
use Rattle.pmp_text.specs.Steps.Progress.{with_mark, after_statement, all_published, read_in, resumed}
use Rattle.pmp_text.proofs.Known.{Knows, by_fault, known_fault, knows_line, same_fault, with_line}
use Rattle.pmp_text.proofs.Published.{all_from, all_from-event, all_from-nothing, all_from-passed, all_from-published}
use Rattle.pmp_text.proofs.Published.{pieces_of, same_publications, since_from, since_from-event, since_from-nothing}
use Rattle.pmp_text.proofs.Published.{since_from-passed, since_from-published, some_piece}
use Rattle.pmp_text.specs.Flaws.{at_line}

module _ (version : Version) where
  -- what is read in the end, where these lines follow, cut into these pieces
  abbrev read_from : Reading → List Line → List (List Line) → Read
  read_from so_far lines pieces = record {
    published = all_from version so_far.progress pieces;
    head = so_far.head.lines ++ head_lines version lines;
    expectations = so_far.expectations ++ expected_from version so_far.events lines;
    marks = so_far.marks ++ marks_from version so_far.done lines;
  }

  abbrev read_of : Publications → List HeadLine → List Expectation → List Mark → Read
  read_of published head expectations marks =
      record { published = published; head = head; expectations = expectations; marks = marks }

  same_read : (p q : Publications) (h k : List HeadLine) (e f : List Expectation) (m n : List Mark) → p ≡ q → h ≡ k
      → e ≡ f → m ≡ n → read_of p h e m ≡ read_of q k f n
  same_read p q h k e f m n same_p same_h same_e same_m = λ i. read_of (same_p i) (same_h i) (same_e i) (same_m i)

  -- what is meant by lines that have this first fault, or none
  abbrev meant_by : Reading → Option Fault → List Line → List (List Line) → Result Read Fault
  meant_by so_far fault lines pieces =
      fault_or_publications fault (since_from version so_far.progress.since pieces) (read_from so_far lines pieces)

  -- what is meant by lines behind others
  abbrev meant_from : Reading → (before lines : List Line) → Result Read Fault
  meant_from so_far before lines = meant_by so_far (first_fault before lines) lines (pieces_of version lines)

  same_meant : (fault : Option Fault) (since other : Option ℕ) (read again : Read) → since ≡ other → read ≡ again
      → fault_or_publications fault since read ≡ fault_or_publications fault other again
  same_meant fault since other read again same_since same_read =
      λ i. fault_or_publications fault (same_since i) (same_read i)

  -- the same where nothing was read before
  abbrev pub read_alone : List Line → Read
  read_alone lines = read_of (publications version lines) (head_lines version lines) (expected_from version 0 lines)
      (marks_from version 0 lines)

  abbrev pub meant_alone : (before lines : List Line) → Result Read Fault
  meant_alone before lines =
      fault_or_publications (first_fault before lines) (first_unpublished version lines) (read_alone lines)

  pub meant_from-nothing : (before lines : List Line)
      → meant_from nothing_begun before lines ≡ meant_alone before lines
  meant_from-nothing before lines = same_meant (first_fault before lines) _ _ _ _
      (since_from-nothing version (pieces_of version lines))
      (same_read _ _ _ _ _ _ _ _ (all_from-nothing version (pieces_of version lines)) refl refl refl)

  -- ---- one line more

  -- reading this line and then the rest, against what is meant by them
  module _ (so_far : Reading) (last : Line) (front : List Line) (above : version_above (last ∷ front) ≡ version)
      (knows : Knows version so_far (last ∷ front)) (line : Line) (more : List Line) where
    abbrev reads : Result Reading Fault → Result Read Fault
    reads step = elim step [ Ok next ↦ resumed version next more | Err fault ↦ Err fault ]

    -- the first fault behind the line
    abbrev later : Option Fault
    later = first_fault (line ∷ last ∷ front) more

    -- the pieces with the line, which is a `publish` or not
    abbrev cut : Bool → List (List Line)
    cut publish = cond publish ([] ∷ pieces_of version more) (onto_first line (pieces_of version more))

    -- what comes of the line, with this fault or none
    abbrev meant_with : (publish : Bool) → Option Flaw → Result Read Fault
    meant_with publish fault =
        meant_by so_far (option_or (option_map (at_line line.number) fault) later) (line ∷ more) (cut publish)

    -- reading goes on behind the line, unless it has a fault
    unless_faulty : (next : Reading) (publish : Bool) (fault : Option Flaw)
        → resumed version next more ≡ meant_with publish None
        → reads (unless line.number fault next) ≡ meant_with publish fault
    unless_faulty next publish None same = same
    unless_faulty next publish (Some fault) same = refl

    -- what the line adds to the head and to what is expected
    head_here : (says : Result Statement Flaw) → said_by version line ≡ says
        → so_far.head.lines ++ cons_option (head_line_in line.number says) (head_lines version more)
        ≡ so_far.head.lines ++ head_lines version (line ∷ more)
    head_here says e = rw e refl

    expected_here : (says : Result Statement Flaw) → said_by version line ≡ says
        → so_far.expectations
        ++ expected_by so_far.events line.number says (λ events. expected_from version events more)
        ≡ so_far.expectations ++ expected_from version so_far.events (line ∷ more)
    expected_here says e = rw e refl

    marks_here : (says : Result Statement Flaw) → said_by version line ≡ says
        → so_far.marks ++ marks_by so_far.done says (λ done. marks_from version done more)
        ≡ so_far.marks ++ marks_from version so_far.done (line ∷ more)
    marks_here says e = rw e refl

    abbrev next : Result Statement Flaw → Reading
    next says = with_line version so_far line.number says

    -- a line that is neither an event nor a `publish`: the pieces are as without it
    passes : (next : Reading) → next.progress ≡ so_far.progress → event_of version line ≡ None
        → next.head.lines ++ head_lines version more ≡ so_far.head.lines ++ head_lines version (line ∷ more)
        → next.expectations ++ expected_from version next.events more
        ≡ so_far.expectations ++ expected_from version so_far.events (line ∷ more)
        → next.marks ++ marks_from version next.done more ≡ so_far.marks ++ marks_from version so_far.done (line ∷ more)
        → meant_from next (line ∷ last ∷ front) more ≡ meant_with false None
    passes next progress none heads expected marks = same_meant later _ _ _ _
        (ap (λ (p : Progress). since_from version p.since (pieces_of version more)) progress
        ∙ sym (since_from-passed version line none so_far.progress.since
        (pieces_of version more) (some_piece version more)))
        (same_read _ _ _ _ _ _ _ _
        (ap (λ (p : Progress). all_from version p (pieces_of version more)) progress
        ∙ sym (all_from-passed version so_far.progress line none (pieces_of version more)))
        heads expected marks)

    -- what is meant behind the line is meant with it
    agrees : (says : Result Statement Flaw) → said_by version line ≡ says
        → meant_from (next says) (line ∷ last ∷ front) more ≡ meant_with (publishes says) None
    agrees (Err flaw) e =
        passes so_far refl (ap event_in e) (head_here _ e) (expected_here _ e) (marks_here _ e)
    agrees (Ok (statement.Publish name)) e = same_meant later _ _ _ _
        (sym (since_from-published version so_far.progress.since (pieces_of version more) (some_piece version more)))
        (same_read _ _ _ _ _ _ _ _
        (sym (all_from-published version so_far.progress (pieces_of version more) (some_piece version more)))
        (head_here _ e) (expected_here _ e) (append_assoc so_far.marks _ _ ∙ marks_here _ e))
    agrees (Ok (statement.Mark name)) e =
        passes (with_mark so_far name) refl (ap event_in e) (head_here _ e) (expected_here _ e)
        (append_assoc so_far.marks _ _ ∙ marks_here _ e)
    agrees (Ok (statement.Event event)) e = same_meant later _ _ _ _
        (sym (since_from-event version line event e so_far.progress.since
        (pieces_of version more) (some_piece version more)))
        (same_read _ _ _ _ _ _ _ _
        (sym (all_from-event version so_far.progress line event e (pieces_of version more)))
        (head_here _ e) (expected_here _ e) (marks_here _ e))
    agrees (Ok (statement.Head says)) e =
        passes (next (Ok (statement.Head says))) refl (ap event_in e)
        (append_assoc so_far.head.lines _ _ ∙ head_here _ e) (expected_here _ e) (marks_here _ e)
    agrees (Ok (statement.Expect register value)) e =
        passes (with_expected so_far line.number register value) refl (ap event_in e) (head_here _ e)
        (append_assoc so_far.expectations _ _ ∙ expected_here _ e) (marks_here _ e)

    one_line_more : (says : Result Statement Flaw) → said_by version line ≡ says
        → resumed version (next says) more ≡ meant_from (next says) (line ∷ last ∷ front) more
        → resumed version so_far (line ∷ more) ≡ meant_from so_far (last ∷ front) (line ∷ more)
    one_line_more says e same =
        ap (λ (r : Result Statement Flaw). reads (after_statement version so_far line.number r)) e
        ∙ ap reads (by_fault version so_far line.number says)
        ∙ unless_faulty (next says) (publishes says) (known_fault version so_far says) (same ∙ agrees says e)
        ∙ ap (meant_with (publishes says)) (same_fault version so_far (last ∷ front) knows says)
        ∙ sym (ap (λ (r : Result Statement Flaw). meant_with (publishes r)
        (statement_fault (behind version (last ∷ front)) r)) e)
        ∙ sym (ap (λ (v : Version). meant_with (is_publish version line) (fault_behind v (last ∷ front) line)) above)

  -- ---- all lines

  nothing_left : (so_far : Reading) (since : Option ℕ)
      → all_published since (read_in so_far) ≡ fault_or_publications None (option_or since None)
      (read_from so_far [] ([] ∷ []))
  nothing_left so_far None = ap (λ (all : Read). Ok all) (sym (same_read _ _ _ _ _ _ _ _
      (same_publications version _ _ _ _
      (append-nil so_far.progress.published.batches) (append-nil so_far.progress.published.lines))
      (append-nil so_far.head.lines) (append-nil so_far.expectations) (append-nil so_far.marks)))
  nothing_left so_far (Some number) = refl

  -- reading these lines gives what is meant by them, whatever was read before
  pub reading_means : (lines : List Line) (so_far : Reading) (last : Line) (front : List Line)
      → version_above (last ∷ front) ≡ version → Knows version so_far (last ∷ front)
      → resumed version so_far lines ≡ meant_from so_far (last ∷ front) lines
  reading_means [] so_far last front above knows = nothing_left so_far so_far.progress.since
  reading_means (line ∷ more) so_far last front above knows =
      let says = said_by version line in
      one_line_more so_far last front above knows line more says refl
      (reading_means more (with_line version so_far line.number says) line (last ∷ front) above
      (knows_line version so_far (last ∷ front) knows line says refl))
