-- Reading line by line gives what the whole script means.
use Rattle.std.proofs.Common.{◌≡◌, ℕ, ◌+◌, ◌<◌, ◌≤◌, Bool, true, false, cond, List, [], ◌∷◌, length, Option, Some, None}
use Rattle.std.proofs.Common.{Result, Err, refl, sym, ap, ◌∙◌}
use Rattle.std.specs.Prelude.{unwrap_or, codes, bytes_eq, ◌||◌, filter}
use Rattle.std.specs.List.{cons_option}
use Rattle.std.proofs.lemmas.Bool.{cond-true, cond-false, lt-ltb, le-ltb}
use Rattle.std.proofs.lemmas.Slice.Eq.{bytes_eq-Decides}
use Rattle.pmp_core.specs.declared.size.Size.{Size}
use Rattle.pmp_core.specs.declared.size.Size.TheVariants.{Sixteen}
use Rattle.pmp_text.specs.declared.flaw.Flaw.{Flaw}
use Rattle.pmp_text.specs.declared.refusal.Refusal.TheVariants.{BadVersion, BadLine, TooLong}
use Rattle.pmp_text.specs.declared.fault.Fault.{Fault}
use Rattle.pmp_text.specs.declared.script.statement.Statement.{Statement}
use Rattle.pmp_text.specs.declared.script.version.Version.{Version}
use Rattle.pmp_text.specs.declared.script.version.Version.TheVariants.{Sized, Headed}
use Rattle.pmp_text.specs.Contents.{Publications, ScriptContents}
use Rattle.pmp_text.specs.Statements.{has_rv32, statement_of}
use Rattle.pmp_text.specs.declared.script.reader.TheConstants.{MAX_HEADED_SCRIPT, MAX_SCRIPT}
use Rattle.pmp_text.specs.Lines.{lines, words}
use Rattle.pmp_text.specs.Longhand.{in_longhand, lines_in_longhand, meant_behind, meant_lines}
use Rattle.pmp_text.specs.ScriptLines.{Line, counts, is_headed_by, numbered_from, said_by, significant_from}
use Rattle.pmp_text.specs.ScriptLines.{significant_lines, version_flaw, version_named, version_numbered}
use Rattle.pmp_text.specs.ScriptFaults.{counted, ends_head, first_fault, names_same, rv32_behind, says_same}
use Rattle.pmp_text.specs.ScriptEvents.{event_in, first_unpublished, publishes}
use Rattle.pmp_text.specs.Scripts.{fault_or_publications, for_head, for_unit, lines_meaning, meaning_behind, most_bytes}
use Rattle.pmp_text.specs.Scripts.{script_meaning}
use Rattle.pmp_text.specs.Steps.Progress.{Read, concluded, nothing_begun, resumed}
use Rattle.pmp_text.proofs.Known.{Knows}
use Rattle.pmp_text.proofs.Resumed.{meant_alone, meant_from-nothing, read_alone, reading_means}
use Rattle.pmp_text.specs.Flaws.{at_line, part, as_whole}

-- ---- from the version line on

two_words : (version : Version) (name number : List ℕ) → name ≡ codes "pmp"
    → statement_of version (name ∷ number ∷ []) ≡ Err (part 0 BadLine)
unfolding statement_of
two_words (Sized size) name number e = ap (λ (word : List ℕ). statement_of (Sized size) (word ∷ number ∷ [])) e
two_words Headed name number e = ap (λ (word : List ℕ). statement_of Headed (word ∷ number ∷ [])) e

by_name : (is : Bool) (name number : List ℕ) (version : Version) → bytes_eq name (codes "pmp") ≡ is
    → cond is (version_numbered number) None ≡ Some version → (any : Version)
    → statement_of any (name ∷ number ∷ []) ≡ Err (part 0 BadLine)
by_name true name number version is e any = two_words any name number ((bytes_eq-Decides name (codes "pmp")).0 is)
by_name false name number version is e any = absurd cc

-- the version line is no statement
no_statement : (words : List (List ℕ)) (version : Version) → version_named words ≡ Some version → (any : Version)
    → statement_of any words ≡ Err (part 0 BadLine)
unfolding version_named
no_statement [] version e any = absurd cc
no_statement (name ∷ []) version e any = absurd cc
no_statement (name ∷ number ∷ []) version e any = by_name (bytes_eq name (codes "pmp")) name number version refl e any
no_statement (name ∷ number ∷ word ∷ more) version e any = absurd cc

-- ---- what is concluded

abbrev of_version : Version → Read → Result Publications Fault → Result ScriptContents Fault
of_version (Sized size) read = for_unit size
of_version Headed read = for_head read.head read.expectations read.marks

concludes : (version : Version) (read : Read) (fault : Option Fault) (unpublished : Option ℕ)
    → of_version version read (fault_or_publications fault unpublished read.published)
    ≡ concluded version (fault_or_publications fault unpublished read)
concludes (Sized size) read (Some fault) unpublished = refl
concludes (Sized size) read None (Some number) = refl
concludes (Sized size) read None None = refl
concludes Headed read (Some fault) unpublished = refl
concludes Headed read None (Some number) = refl
concludes Headed read None None = refl

as_concluded : (version : Version) (first : Line) (more : List Line)
    → meaning_behind first more (Some version) ≡ concluded version (meant_alone version (first ∷ []) more)
as_concluded (Sized size) first more =
    concludes (Sized size) (read_alone (Sized size) more) (first_fault (first ∷ []) more)
    (first_unpublished (Sized size) more)
as_concluded Headed first more =
    concludes Headed (read_alone Headed more) (first_fault (first ∷ []) more) (first_unpublished Headed more)

-- ---- the version line

counted_or_not : (does : Bool) (line : Line) (rest : List Line) (first : Line) (more : List Line)
    → line.stands_for ≡ None
    → ((first : Line) (more : List Line) → rest ≡ first ∷ more → first.stands_for ≡ None)
    → cond does (line ∷ rest) rest ≡ first ∷ more → first.stands_for ≡ None
counted_or_not true line rest first more alone later e =
    let same : line ≡ first = cc in sym (ap (λ (l : Line). l.stands_for) same) ∙ alone
counted_or_not false line rest first more alone later e = later first more e

-- a text's own lines stand for themselves
stands_alone : (ls : List (List ℕ)) (number : ℕ) (first : Line) (more : List Line)
    → filter (λ (line : Line). counts line.words) (numbered_from number ls) ≡ first ∷ more → first.stands_for ≡ None
stands_alone [] number first more e = absurd cc
stands_alone (line ∷ ls) number first more e =
    counted_or_not (counts (words line)) (record { number = number; words = words line; stands_for = None }) _ first more
    refl (stands_alone ls (number + 1)) e

first_alone : (text : List ℕ) (first : Line) (more : List Line) → significant_lines text ≡ first ∷ more
    → first.stands_for ≡ None
unfolding significant_from
first_alone text first more e = stands_alone (lines text) 1 first more e

-- it is no statement
nothing_said : (first : Line) (version : Version) → version_named first.words ≡ Some version → first.stands_for ≡ None
    → (any : Version) → said_by any first ≡ Err (part 0 BadLine)
unfolding said_by
nothing_said first version named alone (Sized size) = no_statement first.words version named (Sized size)
nothing_said first version named alone Headed =
    ap (λ (says : Option (Result Statement Flaw)). unwrap_or says (statement_of Headed first.words)) alone
    ∙ no_statement first.words version named Headed

module _ (first : Line) (version : Version) (named : version_named first.words ≡ Some version)
    (alone : first.stands_for ≡ None) where
  begins : Knows version nothing_begun (first ∷ [])
  begins =
      let no = nothing_said first version named alone version in
      record {
        xlen = sym (ap (λ (r : Result Statement Flaw). rv32_behind r false) no);
        count = sym (ap (λ (r : Result Statement Flaw). counted r 0) no);
        over = sym (ap (λ (r : Result Statement Flaw). ends_head r || false) no);
        said = λ here. sym (ap (λ (r : Result Statement Flaw). says_same here r || false) no);
        marked = λ name. sym (ap (λ (r : Result Statement Flaw). names_same name r || false) no);
        events = sym (ap (λ (r : Result Statement Flaw). length (cons_option (event_in r) [])) no);
        publications = sym (ap (λ (r : Result Statement Flaw). length (cond (publishes r) (first ∷ []) [])) no);
      }

  pub read_from_nothing : (more : List Line)
      → meant_alone version (first ∷ []) more ≡ resumed version nothing_begun more
  read_from_nothing more =
      sym (meant_from-nothing version (first ∷ []) more)
      ∙ sym (reading_means version more nothing_begun first []
      (ap (λ (v : Option Version). unwrap_or v (Sized Sixteen)) named) begins)

-- ---- the text

module _ (text : List ℕ) where
  pub long_script : most_bytes text < length text → script_meaning text ≡ Err (at_line 0 (as_whole TooLong))
  unfolding script_meaning
  long_script long = cond-true _ _ _ (lt-ltb (most_bytes text) (length text) long)

  module _ (short : length text ≤ most_bytes text) where
    pub by_lines : script_meaning text ≡ lines_meaning (meant_lines text)
    unfolding script_meaning
    by_lines = cond-false _ _ _ (le-ltb (most_bytes text) (length text) short)

    pub no_version : significant_lines text ≡ [] → script_meaning text ≡ Err (at_line 1 (as_whole BadVersion))
    no_version lines = by_lines ∙ ap (λ (ls : List Line). lines_meaning (lines_in_longhand ls)) lines

    module _ (first : Line) (more : List Line) (lines : significant_lines text ≡ first ∷ more) where
      pub no_size : version_named first.words ≡ None
          → script_meaning text ≡ Err (at_line first.number (version_flaw first.words))
      no_size e = by_lines ∙ ap (λ (ls : List Line). lines_meaning (lines_in_longhand ls)) lines
          ∙ ap (λ (v : Option Version). lines_meaning (meant_behind first more v)) e
          ∙ ap (meaning_behind first more) e

      module _ (version : Version) (named : version_named first.words ≡ Some version) where
        pub reads_from_nothing : meant_alone version (first ∷ []) (in_longhand version more)
            ≡ resumed version nothing_begun (in_longhand version more)
        reads_from_nothing =
            read_from_nothing first version named (first_alone text first more lines) (in_longhand version more)

        pub with_size : script_meaning text ≡ concluded version (resumed version nothing_begun (in_longhand version more))
        with_size = by_lines ∙ ap (λ (ls : List Line). lines_meaning (lines_in_longhand ls)) lines
            ∙ ap (λ (v : Option Version). lines_meaning (meant_behind first more v)) named
            ∙ ap (meaning_behind first (in_longhand version more)) named
            ∙ as_concluded version first (in_longhand version more) ∙ ap (concluded version) reads_from_nothing

-- ---- how long it may be

-- the version that the first line names says it
pub most_of : (text : List ℕ) (first : Line) (more : List Line) (size : Size) → significant_lines text ≡ first ∷ more
    → version_named first.words ≡ Some (Sized size) → most_bytes text ≡ MAX_SCRIPT
most_of text first more size lines named =
    ap (λ (ls : List Line). cond (is_headed_by ls) MAX_HEADED_SCRIPT MAX_SCRIPT) lines
    ∙ ap (λ (v : Option Version). cond (elim v as (λ _. Bool) [ Some version ↦ has_rv32 version | None ↦ false ])
    MAX_HEADED_SCRIPT MAX_SCRIPT) named
