-- What is known of the lines before, line by line.
use Rattle.std.proofs.Common.{◌≡◌, ℕ, ◌+◌, false, List, [], ◌∷◌, ◌++◌, length, Option, Some, None, Result, Ok, Err}
use Rattle.std.proofs.Common.{refl, sym, ap, ◌∙◌, add-one}
use Rattle.std.specs.Prelude.{◌||◌}
use Rattle.std.proofs.Math.Bool.{or-false, or_comm}
use Rattle.std.proofs.lemmas.List.Folds.{list_any-append}
use Rattle.std.proofs.lemmas.List.{append-nil, length-append}
use Rattle.std.proofs.lemmas.List.Sums.{fold-append}
use Rattle.pmp_core.specs.declared.hart.Profile.{Profile}
use Rattle.pmp_text.specs.declared.flaw.Flaw.{Flaw}
use Rattle.pmp_text.specs.declared.mark.Name.{Name}
use Rattle.pmp_text.specs.declared.script.hart_field.HartField.TheVariants.{Xlen, Entries, Grain, Bits, Smepmp}
use Rattle.pmp_text.specs.declared.script.statement.HeadStatement.{HeadStatement}
use Rattle.pmp_text.specs.declared.script.statement.HeadStatement.TheVariants.{Hart, Set}
use Rattle.pmp_text.specs.declared.script.statement.Statement.{Statement}
use Rattle.pmp_text.specs.declared.script.statement.Statement.TheVariants as statement
use Rattle.pmp_text.specs.declared.script.version.Version.{Version}
use Rattle.pmp_text.specs.Heads.{event_flaw, is_same, profile_said, rv32_with, unsaid_hart, with_statement}
use Rattle.pmp_text.specs.Marks.{is_in, same_name}
use Rattle.pmp_text.specs.ScriptEvents.{mark_at}
use Rattle.pmp_text.specs.ScriptFaults.{Behind, all_events, all_publications, behind, event_fault, head_fault}
use Rattle.pmp_text.specs.ScriptFaults.{is_marked, is_over, is_rv32, is_said, mark_fault, names_same, open_events}
use Rattle.pmp_text.specs.ScriptFaults.{publish_fault, statement_fault}
use Rattle.pmp_text.specs.ScriptLines.{Line, said_by}
use Rattle.pmp_text.specs.Steps.Progress.{HeadSoFar, Reading, after_statement, longer_head, says_in, unless, with_event}
use Rattle.pmp_text.specs.Steps.Progress.{with_expected, with_head, with_mark, with_publish}

module _ (version : Version) where
  -- the machine knows of the lines before, which stand the nearest first
  pub record Knows (so_far : Reading) (before : List Line) : Type 0 where
    pub xlen : (profile_said so_far.head.lines).is_rv32 ≡ is_rv32 version before
    pub count : length so_far.progress.batch ≡ open_events version before
    pub over : so_far.head.is_over ≡ is_over version before
    pub said : (says : HeadStatement) → says_in so_far.head.lines says ≡ is_said version before says
    pub marked : (name : Name) → is_in so_far.marks name ≡ is_marked version before name
    pub events : so_far.events ≡ all_events version before
    pub publications : so_far.done ≡ all_publications version before

  -- the same as one
  abbrev known : Reading → Behind
  known so_far = record {
    of_event = event_flaw version (profile_said so_far.head.lines).is_rv32;
    unpublished = length so_far.progress.batch;
    events = so_far.events;
    publications = so_far.done;
    over = so_far.head.is_over;
    said = says_in so_far.head.lines;
    marked = is_in so_far.marks;
  }

  -- a line's fault by what the machine knows
  abbrev pub known_fault : Reading → Result Statement Flaw → Option Flaw
  known_fault so_far = statement_fault (known so_far)

  pub same_fault : (so_far : Reading) (before : List Line) → Knows so_far before → (says : Result Statement Flaw)
      → known_fault so_far says ≡ statement_fault (behind version before) says
  same_fault so_far before knows (Err flaw) = refl
  same_fault so_far before knows (Ok (statement.Publish None)) =
      ap (λ (n : ℕ). publish_fault (λ _. false) None n) knows.publications
  same_fault so_far before knows (Ok (statement.Publish (Some name))) =
      λ i. publish_fault (λ _. knows.marked name i) (Some name) (knows.publications i)
  same_fault so_far before knows (Ok (statement.Mark name)) = λ i. mark_fault (knows.count i) (knows.marked name i)
  same_fault so_far before knows (Ok (statement.Event event)) =
      λ i. event_fault (event_flaw version (knows.xlen i) event) (knows.count i) (knows.events i)
  same_fault so_far before knows (Ok (statement.Head says)) = λ i. head_fault (knows.over i) (knows.said says i) says
  same_fault so_far before knows (Ok (statement.Expect register value)) = refl

  -- ---- one line more

  -- what was read, and a line without a fault
  abbrev pub with_line : Reading → ℕ → Result Statement Flaw → Reading
  with_line so_far number (Err flaw) = so_far
  with_line so_far number (Ok (statement.Publish name)) = with_publish so_far name
  with_line so_far number (Ok (statement.Mark name)) = with_mark so_far name
  with_line so_far number (Ok (statement.Event event)) = with_event so_far number event
  with_line so_far number (Ok (statement.Head says)) = record so_far { head = longer_head so_far.head number says }
  with_line so_far number (Ok (statement.Expect register value)) = with_expected so_far number register value

  with_its_head : (so_far : Reading) (number : ℕ) (fault : Option Flaw) (head : HeadSoFar)
      → with_head so_far (unless number fault head) ≡ unless number fault (record so_far { head = head })
  with_its_head so_far number None head = refl
  with_its_head so_far number (Some flaw) head = refl

  pub by_fault : (so_far : Reading) (number : ℕ) (says : Result Statement Flaw)
      → after_statement version so_far number says
      ≡ unless number (known_fault so_far says) (with_line so_far number says)
  by_fault so_far number (Err flaw) = refl
  by_fault so_far number (Ok (statement.Publish name)) = refl
  by_fault so_far number (Ok (statement.Mark name)) = refl
  by_fault so_far number (Ok (statement.Event event)) = refl
  by_fault so_far number (Ok (statement.Head says)) = with_its_head so_far number _ _
  by_fault so_far number (Ok (statement.Expect register value)) = refl

  taken : (number : ℕ) (fault : Option Flaw) (made next : Reading) → unless number fault made ≡ Ok next
      → (fault ≡ None) × (made ≡ next)
  taken number None made next e = (refl, cc)
  taken number (Some flaw) made next e = absurd cc

  pub line_taken : (so_far : Reading) (number : ℕ) (says : Result Statement Flaw) (next : Reading)
      → after_statement version so_far number says ≡ Ok next
      → (known_fault so_far says ≡ None) × (with_line so_far number says ≡ next)
  line_taken so_far number says next e = taken number _ _ next (sym (by_fault so_far number says) ∙ e)

  -- ---- what is known behind it

  module _ (so_far : Reading) (front : List Line) (knows : Knows so_far front) (line : Line) where
    -- the marks so far, and one more
    marked_too : (name other : Name) (done : ℕ)
        → is_in (so_far.marks ++ mark_at (Some other) done) name ≡ (same_name name other || is_marked version front name)
    marked_too name other done = list_any-append (λ mark. same_name name mark.name) so_far.marks _
        ∙ rw (or-false, knows.marked name) (or_comm (is_marked version front name) (same_name name other))

    marked_behind : (name : Name) (given : Option Name) (done : ℕ)
        → is_in (so_far.marks ++ mark_at given done) name
        ≡ (names_same name (Ok (statement.Publish given)) || is_marked version front name)
    marked_behind name None done = rw append-nil (knows.marked name)
    marked_behind name (Some other) done = marked_too name other done

    rv32_said : (said : Profile) (says : HeadStatement)
        → (with_statement said says).is_rv32 ≡ rv32_with says said.is_rv32
    rv32_said said (Hart (Xlen is)) = refl
    rv32_said said (Hart (Entries n)) = refl
    rv32_said said (Hart (Grain n)) = refl
    rv32_said said (Hart (Bits n)) = refl
    rv32_said said (Hart (Smepmp has)) = refl
    rv32_said said (Set register value) = refl

    pub knows_line : (says : Result Statement Flaw) → said_by version line ≡ says
        → Knows (with_line so_far line.number says) (line ∷ front)
    knows_line (Err flaw) e = record {
      xlen = rw e knows.xlen;
      count = rw e knows.count;
      over = rw e knows.over;
      said = λ here. rw e (knows.said here);
      marked = λ here. rw e (knows.marked here);
      events = rw e knows.events;
      publications = rw e knows.publications;
    }
    knows_line (Ok (statement.Publish name)) e = record {
      xlen = rw e knows.xlen;
      count = rw e refl;
      over = rw e refl;
      said = λ here. rw e (knows.said here);
      marked = λ here. rw e (marked_behind here name (so_far.done + 1));
      events = rw e knows.events;
      publications = rw e (ap (λ (n : ℕ). n + 1) knows.publications ∙ add-one _);
    }
    knows_line (Ok (statement.Mark name)) e = record {
      xlen = rw e knows.xlen;
      count = rw e knows.count;
      over = rw e knows.over;
      said = λ here. rw e (knows.said here);
      marked = λ here. rw e (marked_too here name so_far.done);
      events = rw e knows.events;
      publications = rw e knows.publications;
    }
    knows_line (Ok (statement.Event event)) e = record {
      xlen = rw e knows.xlen;
      count = rw e (length-append so_far.progress.batch (event ∷ []) ∙ ap (λ (n : ℕ). n + 1) knows.count);
      over = rw e refl;
      said = λ here. rw e (knows.said here);
      marked = λ here. rw e (knows.marked here);
      events = rw e (ap (λ (n : ℕ). n + 1) knows.events ∙ add-one _);
      publications = rw e knows.publications;
    }
    knows_line (Ok (statement.Head says)) e = record {
      xlen = rw e (ap (λ (said : Profile). said.is_rv32)
          (fold-append (λ said it. with_statement said it.statement) unsaid_hart so_far.head.lines _)
          ∙ rv32_said (profile_said so_far.head.lines) says ∙ ap (rv32_with says) knows.xlen);
      count = rw e knows.count;
      over = rw e knows.over;
      said = λ here. rw e (list_any-append (λ it. is_same here it.statement) so_far.head.lines _
          ∙ rw (or-false, knows.said here) (or_comm (is_said version front here) (is_same here says)));
      marked = λ here. rw e (knows.marked here);
      events = rw e knows.events;
      publications = rw e knows.publications;
    }
    knows_line (Ok (statement.Expect register value)) e = record {
      xlen = rw e knows.xlen;
      count = rw e knows.count;
      over = rw e knows.over;
      said = λ here. rw e (knows.said here);
      marked = λ here. rw e (knows.marked here);
      events = rw e knows.events;
      publications = rw e knows.publications;
    }
