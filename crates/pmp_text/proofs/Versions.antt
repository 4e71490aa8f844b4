-- What the version of a script makes of it.
use Rattle.std.proofs.Common.{◌≡◌, ℕ, zero, suc, ◌+◌, ◌≤◌, Bool, true, false, cond, ltb, List, [], ◌∷◌, ◌++◌, length}
use Rattle.std.proofs.Common.{take, Option, Result, Ok, Err, Some, None, refl, sym, ap, subst, ◌∙◌, arith}
use Rattle.std.specs.Prelude.{◌↔◌, All, filter, codes}
use Rattle.std.specs.List.{list_all}
use Rattle.std.proofs.lemmas.Bool.{and_parts, and_from, cond-true, cond-false}
use Rattle.std.proofs.lemmas.List.Elements.{All-head, All-tail}
use Rattle.std.proofs.lemmas.List.Folds.{list_all-append}
use Rattle.pmp_core.specs.declared.decision.Decision.{Decision}
use Rattle.pmp_core.specs.declared.event.Event.{Event}
use Rattle.pmp_core.specs.declared.size.Size.{Size}
use Rattle.pmp_core.specs.declared.size.Size.TheVariants.{Sixteen, SixtyFour}
use Rattle.pmp_core.specs.Histories.{joined}
use Rattle.pmp_core.specs.SizeLaw.{DecideAlike, SizeLaw, writes_first}
use Rattle.pmp_text.specs.declared.fault.Fault.{Fault}
use Rattle.pmp_text.specs.declared.refusal.Refusal.TheVariants.{TooLong}
use Rattle.pmp_text.specs.declared.trace.TraceRow.{TraceRow}
use Rattle.pmp_text.specs.Contents.{Publications, ScriptContents}
use Rattle.pmp_text.specs.declared.script.reader.TheConstants.{MAX_SCRIPT}
use Rattle.pmp_text.specs.Lines.{words, lines}
use Rattle.pmp_text.specs.Reports.{AreDecided, IsReport, file_of_script}
use Rattle.pmp_text.specs.Longhand.{in_longhand, lines_in_longhand, meant_behind, meant_lines}
use Rattle.pmp_text.specs.ScriptLines.{Line, counts, numbered_from, said_by, significant_from, significant_lines}
use Rattle.pmp_text.specs.ScriptLines.{version_flaw, version_named}
use Rattle.pmp_text.specs.Scripts.{for_unit, lines_meaning, meaning_behind, most_bytes, published_behind}
use Rattle.pmp_text.specs.Scripts.{script_meaning}
use Rattle.pmp_text.specs.Statements.{statement_of}
use Rattle.pmp_text.specs.Steps.Progress.{Reading, Read, nothing_begun, after_statement, resumed, concluded}
use Rattle.pmp_text.specs.declared.flaw.Flaw.{Flaw}
use Rattle.pmp_text.specs.declared.script.statement.Statement.{Statement}
use Rattle.pmp_text.specs.declared.script.statement.Statement.TheVariants as statement
use Rattle.pmp_text.specs.declared.script.version.Version.TheVariants.{Sized}
use Rattle.pmp_core.specs.Decision.{IsDecision}
use Rattle.pmp_core.specs.Hart.{profile_of, profile_with}
use Rattle.pmp_core.specs.RegisterFile.{reset_file}
use Rattle.pmp_text.specs.Versions.{IsVersionOne, is_version_one, lines_meaning_in_one, meaning_in_one, in_sixteen}
use Rattle.pmp_text.specs.Versions.{IsReportInOne, VersionOneLaw, IsSameInTwo, in_sixty_four, VersionTwoLaw, HasNoHead}
use Rattle.pmp_text.specs.Versions.{NoHeadLaw}
use Rattle.pmp_core.proofs.HartNumbers.{usual}
use Rattle.pmp_text.proofs.MadeScripts.{Begins, is_read}
use Rattle.pmp_text.proofs.Meanings.{most_of, with_size}
use Rattle.pmp_text.specs.declared.script.version.Version.{Version}
use Rattle.pmp_text.specs.Flaws.{at_line, as_whole}

abbrev one_says : List (List ℕ)
one_says = codes "pmp" ∷ codes "1" ∷ []

abbrev two_says : List (List ℕ)
two_says = codes "pmp" ∷ codes "2" ∷ []

names_sixteen : version_named one_says ≡ Some (Sized Sixteen)
unfolding version_named
names_sixteen = refl

names_sixty_four : version_named two_says ≡ Some (Sized SixtyFour)
unfolding version_named
names_sixty_four = refl

names_one : is_version_one one_says ≡ true
unfolding is_version_one
names_one = refl

-- ---- version 1

abbrev read_lines : Line → List Line → Result Publications Fault
read_lines version more = published_behind version more (Sized Sixteen)

lines_in_one : (version : Line) (more : List Line) → version.words ≡ one_says
    → lines_meaning (version ∷ more) ≡ for_unit Sixteen (lines_meaning_in_one (version ∷ more))
lines_in_one version more says =
    ap (meaning_behind version more) (ap version_named says ∙ names_sixteen)
    ∙ ap (for_unit Sixteen) (sym (cond-true _ (read_lines version more) (Err (at_line version.number (version_flaw version.words)))
    (ap is_version_one says ∙ names_one)))

module _ (text : List ℕ) (is : IsVersionOne text) where
  named_one : version_named is.version.words ≡ Some (Sized Sixteen)
  named_one = ap version_named is.says ∙ names_sixteen

  by_length : (long : Bool) (ls : Result ScriptContents Fault) (in_one : Result Publications Fault)
      → ls ≡ for_unit Sixteen in_one → cond long (Err (at_line 0 (as_whole TooLong))) ls
      ≡ for_unit Sixteen (cond long (Err (at_line 0 (as_whole TooLong))) in_one)
  by_length true ls in_one same = refl
  by_length false ls in_one same = same

  same_lines : lines_meaning (meant_lines text) ≡ for_unit Sixteen (lines_meaning_in_one (significant_lines text))
  same_lines =
      ap (λ (ls : List Line). lines_meaning (lines_in_longhand ls)) is.lines_are
      ∙ ap (λ (v : Option Version). lines_meaning (meant_behind is.version is.more v)) named_one
      ∙ lines_in_one is.version is.more is.says
      ∙ ap (λ (ls : List Line). for_unit Sixteen (lines_meaning_in_one ls)) (sym is.lines_are)

  as_in_one : script_meaning text ≡ for_unit Sixteen (meaning_in_one text)
  unfolding script_meaning
  as_in_one =
      ap (λ (most : ℕ). cond (ltb most (length text)) (Err (at_line 0 (as_whole TooLong))) (lines_meaning (meant_lines text)))
      (most_of text is.version is.more Sixteen is.lines_are named_one)
      ∙ by_length (ltb MAX_SCRIPT (length text)) _ _ same_lines

module _ (batches : List (List Event)) (lines : List (List ℕ)) (trace text : List ℕ) where
  reports_as_in_one : IsReport (in_sixteen batches lines) trace text → IsReportInOne batches trace text
  reports_as_in_one said = record {
    rows = said.rows;
    decisions = said.decisions;
    trace_means = said.trace_means;
    decided = said.decided;
    report = said.report;
  }

  reports_in_sixteen : IsReportInOne batches trace text → IsReport (in_sixteen batches lines) trace text
  reports_in_sixteen said = record {
    rows = said.rows;
    decisions = said.decisions;
    trace_means = said.trace_means;
    decided = said.decided;
    report = said.report;
  }

pub version_one : VersionOneLaw
version_one text is = record {
  meaning = as_in_one text is;
  files = λ batches lines done. refl;
  reports = λ batches lines trace text.
      (reports_as_in_one batches lines trace text, reports_in_sixteen batches lines trace text);
}

-- ---- version 2: the lines behind the version are the same

abbrev significant : ℕ → List (List ℕ) → List Line
significant number ls = filter (λ (line : Line). counts line.words) (numbered_from number ls)

one_counts : (line : List ℕ) (says : List (List ℕ)) → words line ≡ says → counts says ≡ true
    → (number : ℕ) (after : List (List ℕ))
    → significant number (line ∷ after) ≡ record { number = number; words = says; stands_for = None } ∷ significant (number + 1) after
one_counts line says e counted number after =
    cond-true (counts (words line)) (record { number = number; words = words line; stands_for = None } ∷ significant (number + 1) after)
    (significant (number + 1) after) (ap counts e ∙ counted)
    ∙ ap (λ (ws : List (List ℕ)). record { number = number; words = ws; stands_for = None } ∷ significant (number + 1) after) e

-- behind lines that don't count, the first line that does has the same number, whatever it says
record StandsBehind (number : ℕ) (before after : List (List ℕ)) : Type 0 where
  at : ℕ
  more : List Line
  stands : (line : List ℕ) (says : List (List ℕ)) → words line ≡ says → counts says ≡ true
      → significant number (before ++ line ∷ after) ≡ record { number = at; words = says; stands_for = None } ∷ more

stands_behind : (number : ℕ) (before after : List (List ℕ)) → All (λ line. counts (words line) ≡ false) before
    → StandsBehind number before after
stands_behind number [] after none = record {
  at = number;
  more = significant (number + 1) after;
  stands = λ line says e counted. one_counts line says e counted number after;
}
stands_behind number (skipped ∷ before) after none =
    let here = All-head (λ line. counts (words line) ≡ false) skipped before none in
    let rest = stands_behind (number + 1) before after
    (All-tail (λ line. counts (words line) ≡ false) skipped before none) in
    record {
      at = rest.at;
      more = rest.more;
      stands = λ line says e counted.
          cond-false (counts (words skipped))
          (record { number = number; words = words skipped; stands_for = None } ∷ significant (number + 1) (before ++ line ∷ after))
          (significant (number + 1) (before ++ line ∷ after)) here
          ∙ rest.stands line says e counted;
    }

lines_behind : (text : List ℕ) (ls : List (List ℕ)) → lines text ≡ ls → significant_lines text ≡ significant 1 ls
unfolding significant_from
lines_behind text ls e = ap (significant 1) e

-- what comes of a step and these lines behind it
abbrev on : Size → List Line → Result Reading Fault → Result Read Fault
on size more step = elim step [ Ok next ↦ resumed (Sized size) next more | Err fault ↦ Err fault ]

-- reading goes on alike for both sizes
goes_alike : (step : Result Reading Fault) (more : List Line)
    → ((so_far : Reading) → resumed (Sized Sixteen) so_far more ≡ resumed (Sized SixtyFour) so_far more)
    → on Sixteen more step ≡ on SixtyFour more step
goes_alike (Ok next) more alike = alike next
goes_alike (Err fault) more alike = refl

words_alike : (words : List (List ℕ)) → statement_of (Sized Sixteen) words ≡ statement_of (Sized SixtyFour) words
unfolding statement_of
words_alike [] = refl
words_alike (word ∷ operands) = refl

says_alike : (line : Line) → said_by (Sized Sixteen) line ≡ said_by (Sized SixtyFour) line
unfolding said_by
says_alike line = words_alike line.words

takes_alike : (so_far : Reading) (number : ℕ) (says : Result Statement Flaw)
    → after_statement (Sized Sixteen) so_far number says ≡ after_statement (Sized SixtyFour) so_far number says
takes_alike so_far number (Err flaw) = refl
takes_alike so_far number (Ok (statement.Publish name)) = refl
takes_alike so_far number (Ok (statement.Mark name)) = refl
takes_alike so_far number (Ok (statement.Event event)) = refl
takes_alike so_far number (Ok (statement.Head says)) = refl
takes_alike so_far number (Ok (statement.Expect register value)) = refl

reads_alike : (lines : List Line) (so_far : Reading)
    → resumed (Sized Sixteen) so_far lines ≡ resumed (Sized SixtyFour) so_far lines
reads_alike [] so_far = refl
reads_alike (line ∷ more) so_far =
    ap (λ (says : Result Statement Flaw). on Sixteen more (after_statement (Sized Sixteen) so_far line.number says))
    (says_alike line)
    ∙ ap (on Sixteen more) (takes_alike so_far line.number (said_by (Sized SixtyFour) line))
    ∙ goes_alike (after_statement (Sized SixtyFour) so_far line.number (said_by (Sized SixtyFour) line)) more
    (reads_alike more)

-- what is read, as a script for a unit of this size
abbrev of_size : Size → Read → ScriptContents
of_size size all = record {
  size = size;
  start = reset_file (profile_of size);
  batches = all.published.batches;
  lines = all.published.lines;
  expectations = [];
  marks = None;
}

-- what was read of a script of version 1
record WasRead (script : ScriptContents) (read : Result Read Fault) : Type 0 where
  all : Read
  reads : read ≡ Ok all
  is : of_size Sixteen all ≡ script

was_read : (read : Result Read Fault) (script : ScriptContents) → concluded (Sized Sixteen) read ≡ Ok script
    → WasRead script read
was_read (Ok all) script e = record { all = all; reads = refl; is = cc }
was_read (Err fault) script e = absurd cc

module _ (one two : List ℕ) (script : ScriptContents) (same : IsSameInTwo one two)
    (means : script_meaning one ≡ Ok script) where
  abbrev behind : StandsBehind 1 same.before same.after
  behind = stands_behind 1 same.before same.after same.insignificant

  abbrev first_one : Line
  first_one = record { number = behind.at; words = one_says; stands_for = None }

  abbrev first_two : Line
  first_two = record { number = behind.at; words = two_says; stands_for = None }

  lines_one : significant_lines one ≡ first_one ∷ behind.more
  lines_one = lines_behind one (same.before ++ same.version ∷ same.after) same.lines_of_one
      ∙ behind.stands same.version one_says same.says_one refl

  lines_two : significant_lines two ≡ first_two ∷ behind.more
  lines_two = lines_behind two (same.before ++ same.other ∷ same.after) same.lines_of_two
      ∙ behind.stands same.other two_says same.says_two refl

  short : length one ≤ most_bytes one
  short = (is_read one script means).short

  in_one : script_meaning one ≡ concluded (Sized Sixteen) (resumed (Sized Sixteen) nothing_begun behind.more)
  in_one = with_size one short first_one behind.more lines_one (Sized Sixteen) names_sixteen

  short_too : length two ≤ most_bytes two
  short_too =
      let e = same.as_long in let s = short in
      let m = most_of one first_one behind.more Sixteen lines_one names_sixteen in
      let n = most_of two first_two behind.more SixtyFour lines_two names_sixty_four in
      omega arith

  in_two : script_meaning two ≡ concluded (Sized SixtyFour) (resumed (Sized SixtyFour) nothing_begun behind.more)
  in_two = with_size two short_too first_two behind.more lines_two (Sized SixtyFour) names_sixty_four

  read : WasRead script (resumed (Sized Sixteen) nothing_begun behind.more)
  read = was_read (resumed (Sized Sixteen) nothing_begun behind.more) script (sym in_one ∙ means)

  same_batches : script_meaning two ≡ Ok (in_sixty_four script)
  same_batches = in_two ∙ ap (concluded (Sized SixtyFour)) (sym (reads_alike behind.more nothing_begun) ∙ read.reads)
      ∙ ap (λ (s : ScriptContents). Ok (in_sixty_four s)) read.is

-- ---- version 2: rows are decided alike

fewer_events : (batches : List (List Event)) (done : ℕ) → list_all (writes_first 16) (joined batches) ≡ true
    → list_all (writes_first 16) (joined (take done batches)) ≡ true
fewer_events [] zero all = refl
fewer_events [] (suc done) all = refl
fewer_events (batch ∷ batches) zero all = refl
fewer_events (batch ∷ batches) (suc done) all =
    let both = and_parts _ _ (sym (list_all-append (writes_first 16) batch (joined batches)) ∙ all) in
    list_all-append (writes_first 16) batch (joined (take done batches))
    ∙ and_from _ _ both.0 (fewer_events batches done both.1)

module _ (law : SizeLaw) (read : Read) (all : list_all (writes_first 16) (joined read.published.batches) ≡ true) where
  abbrev sized : Size → ScriptContents
  sized size = of_size size read

  abbrev batches : List (List Event)
  batches = read.published.batches

  alike : (row : TraceRow)
      → DecideAlike (file_of_script (sized Sixteen) row.after) (file_of_script (sized SixtyFour) row.after) row.access
  alike row = law (profile_with 16) 16 64 (joined (take row.after batches)) row.access (omega arith) (omega arith)
      (usual 64 (omega arith)) (fewer_events batches row.after all)

  abbrev Decides : Size → TraceRow → Decision → Type 0
  Decides size row decision = IsDecision (file_of_script (sized size) row.after) row.access decision

  module _ (size other : Size) (passes : (row : TraceRow) (decision : Decision) → Decides size row decision
      → Decides other row decision) where
    decided_in : (rows : List TraceRow) (decisions : List Decision)
        → AreDecided (sized size) rows decisions → AreDecided (sized other) rows decisions
    decided_in [] [] decided = tt
    decided_in [] (decision ∷ decisions) decided = absurd decided
    decided_in (row ∷ rows) [] decided = absurd decided
    decided_in (row ∷ rows) (decision ∷ decisions) decided =
        (passes row decision decided.0, decided_in rows decisions decided.1)

    report_in : (trace text : List ℕ) → IsReport (sized size) trace text → IsReport (sized other) trace text
    report_in trace text said = record {
      rows = said.rows;
      decisions = said.decisions;
      trace_means = said.trace_means;
      decided = decided_in said.rows said.decisions said.decided;
      report = said.report;
    }

  reports_alike : (trace text : List ℕ)
      → IsReport (sized Sixteen) trace text ↔ IsReport (sized SixtyFour) trace text
  reports_alike trace text = (
    report_in Sixteen SixtyFour (λ row decision. ((alike row).by_bytes decision).0) trace text,
    report_in SixtyFour Sixteen (λ row decision. ((alike row).by_bytes decision).1) trace text,
  )

pub version_two : SizeLaw → VersionTwoLaw
version_two law one two script same means all =
    let it = read one two script same means in
    record {
      meaning = same_batches one two script same means;
      reports = λ trace text.
          subst (λ (s : ScriptContents). IsReport s trace text ↔ IsReport (in_sixty_four s) trace text) it.is
          (reports_alike law it.all
          (ap (λ (s : ScriptContents). list_all (writes_first 16) (joined s.batches)) it.is ∙ all) trace text);
    }

-- ---- versions without a head

same_version : (size : Size) (version : Version) (more : List Line) (script : ScriptContents)
    → ◌≡◌ {A = Option Version} (Some version) (Some (Sized size)) → Begins version more script → HasNoHead size script
same_version size version more script e begins =
    let same : version ≡ Sized size = cc in
    subst (λ (v : Version). Begins v more script) same begins

pub no_head_law : NoHeadLaw
no_head_law text size script is means =
    let it = is_read text script means in
    let same : it.first ≡ is.first = let e = sym it.lines ∙ is.lines_are in cc in
    same_version size it.version (in_longhand it.version it.more) script
    (sym it.named ∙ ap (λ (line : Line). version_named line.words) same ∙ is.says) it.made.begins
