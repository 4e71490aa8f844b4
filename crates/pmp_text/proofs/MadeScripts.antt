-- What a script with a meaning is made of.
use Rattle.std.proofs.Common.{◌≡◌, ℕ, ◌≤◌, List, [], ◌∷◌, length, Option, Some, None, Result, Ok, Err, refl, sym, ap}
use Rattle.std.proofs.Common.{◌∙◌}
use Rattle.std.proofs.Common.{inl, inr}
use Rattle.std.proofs.lemmas.Bool.{cases_lt}
use Rattle.pmp_core.specs.declared.size.Size.{Size}
use Rattle.pmp_text.specs.declared.fault.Fault.{Fault}
use Rattle.pmp_text.specs.declared.script.version.Version.{Version}
use Rattle.pmp_text.specs.declared.script.version.Version.TheVariants.{Sized, Headed}
use Rattle.pmp_text.specs.Contents.{Publications, ScriptContents}
use Rattle.pmp_core.specs.Hart.{size_for}
use Rattle.pmp_core.specs.RegisterFile.{RegisterFile}
use Rattle.pmp_text.specs.declared.expectation.Expectation.{Expectation}
use Rattle.pmp_text.specs.declared.mark.Mark.{Mark}
use Rattle.pmp_text.specs.Heads.{bits_fault, fault_on, start_said}
use Rattle.pmp_text.specs.Longhand.{in_longhand, lines_in_longhand, meant_behind}
use Rattle.pmp_text.specs.ScriptLines.{Line, significant_lines, version_named}
use Rattle.pmp_text.specs.ScriptEvents.{expected_from, head_lines, marks_from}
use Rattle.pmp_text.specs.Scripts.{fault_or_publications, for_head, for_unit, lines_meaning, meaning_behind, most_bytes}
use Rattle.pmp_text.specs.Scripts.{published_behind, script_meaning}
use Rattle.pmp_text.specs.Versions.{HasNoHead}
use Rattle.pmp_text.proofs.Meanings.{by_lines, long_script}

abbrev pub published_in : ScriptContents → Publications
published_in script = record { batches = script.batches; lines = script.lines }

-- where it begins
abbrev pub Begins : Version → List Line → ScriptContents → Type 0
Begins (Sized size) more script = HasNoHead size script
Begins Headed more script = script.start ≡ start_said (head_lines Headed more)

-- lines behind the one that names the version have no fault, and publish what the script does
pub record IsMade (first : Line) (more : List Line) (version : Version) (script : ScriptContents) : Type 0 where
  pub begins : Begins version more script
  pub published : published_behind first more version ≡ Ok (published_in script)

as_made : (made script : ScriptContents) → ◌≡◌ {A = Result ScriptContents Fault} (Ok made) (Ok script) → made ≡ script
as_made made script e = cc

module _ (first : Line) (more : List Line) (script : ScriptContents) where
  abbrev headed : RegisterFile → Publications → List Expectation → List Mark → ScriptContents
  headed start published expectations marks = record {
    size = size_for start.profile;
    start = start;
    batches = published.batches;
    lines = published.lines;
    expectations = expectations;
    marks = Some marks;
  }

  abbrev begun : Result RegisterFile Fault → Publications → List Expectation → List Mark
      → Result ScriptContents Fault
  begun started published expectations marks =
      elim started [ Ok start ↦ Ok (headed start published expectations marks) | Err fault ↦ Err fault ]

  without_fault : (bits fault : Option Fault) (start : RegisterFile) (published : Publications)
      (expectations : List Expectation) (marks : List Mark)
      → begun (elim bits as (λ _. Result RegisterFile Fault) [
        | Some it ↦ Err it
        | None ↦ elim fault as (λ _. Result RegisterFile Fault) [ Some it ↦ Err it | None ↦ Ok start ]
      ]) published expectations marks ≡ Ok script
      → headed start published expectations marks ≡ script
  without_fault None None start published expectations marks e = as_made _ script e
  without_fault None (Some it) start published expectations marks e = absurd cc
  without_fault (Some it) fault start published expectations marks e = absurd cc

  of_unit : (size : Size) (read : Result Publications Fault) → published_behind first more (Sized size) ≡ read
      → for_unit size read ≡ Ok script → IsMade first more (Sized size) script
  of_unit size (Ok all) was e =
      let is = as_made _ script e in
      record {
        begins = record {
          sized = sym (ap (λ (s : ScriptContents). s.size) is);
          start = sym (ap (λ (s : ScriptContents). s.start) is);
          nothing = sym (ap (λ (s : ScriptContents). s.expectations) is);
          unnamed = sym (ap (λ (s : ScriptContents). s.marks) is);
        };
        published = was ∙ ap (λ (s : ScriptContents). Ok (published_in s)) is;
      }
  of_unit size (Err fault) was e = absurd cc

  of_head : (read : Result Publications Fault) → published_behind first more Headed ≡ read
      → for_head (head_lines Headed more) (expected_from Headed 0 more) (marks_from Headed 0 more) read ≡ Ok script
      → IsMade first more Headed script
  of_head (Ok all) was e =
      let head = head_lines Headed more in
      let expected = expected_from Headed 0 more in
      let start = start_said head in
      let is = without_fault (bits_fault head) (fault_on start head expected) start all expected
      (marks_from Headed 0 more) e in
      record {
        begins = sym (ap (λ (s : ScriptContents). s.start) is);
        published = was ∙ ap (λ (s : ScriptContents). Ok (published_in s)) is;
      }
  of_head (Err fault) was e = absurd cc

  pub behind_version : (version : Version) → meaning_behind first more (Some version) ≡ Ok script
      → IsMade first more version script
  behind_version (Sized size) e = of_unit size (published_behind first more (Sized size)) refl e
  behind_version Headed e = of_head (published_behind first more Headed) refl e

-- it isn't too long, and its first significant line names a version
pub record IsRead (text : List ℕ) (script : ScriptContents) : Type 0 where
  pub short : length text ≤ most_bytes text
  pub first : Line
  pub more : List Line
  pub lines : significant_lines text ≡ first ∷ more
  pub version : Version
  pub named : version_named first.words ≡ Some version
  pub made : IsMade first (in_longhand version more) version script

module _ (text : List ℕ) (script : ScriptContents) (short : length text ≤ most_bytes text) where
  by_version : (first : Line) (more : List Line) → significant_lines text ≡ first ∷ more → (version : Option Version)
      → version_named first.words ≡ version → lines_meaning (meant_behind first more version) ≡ Ok script
      → IsRead text script
  by_version first more lines None named e =
      let refused = sym e ∙ ap (meaning_behind first more) named in absurd cc
  by_version first more lines (Some version) named e = record {
    short = short;
    first = first;
    more = more;
    lines = lines;
    version = version;
    named = named;
    made = behind_version first (in_longhand version more) script version
        (sym (ap (meaning_behind first (in_longhand version more)) named) ∙ e);
  }

  of_lines : (ls : List Line) → significant_lines text ≡ ls → lines_meaning (lines_in_longhand ls) ≡ Ok script
      → IsRead text script
  of_lines [] lines e = absurd cc
  of_lines (first ∷ more) lines e = by_version first more lines (version_named first.words) refl e

pub is_read : (text : List ℕ) (script : ScriptContents) → script_meaning text ≡ Ok script → IsRead text script
is_read text script e = elim (cases_lt (most_bytes text) (length text)) [
  | inl long ↦ let refused = sym e ∙ long_script text long in absurd cc
  | inr short ↦ of_lines text script short (significant_lines text) refl (sym (by_lines text short) ∙ e)
]

-- lines that publish something have no fault, and leave no event behind the last `publish`
pub faultless : {X : Type 0} (fault : Option Fault) (unpublished : Option ℕ) (all read : X)
    → fault_or_publications fault unpublished all ≡ Ok read → (fault ≡ None) × (unpublished ≡ None) × (all ≡ read)
faultless (Some fault) unpublished all read e = absurd cc
faultless None (Some number) all read e = absurd cc
faultless None None all read e = (refl, refl, cc)
