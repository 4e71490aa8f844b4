-- What depends on the version of a script.
use Rattle.std.specs.Prelude.{◌≡◌, ◌↔◌, ℕ, List, [], ◌∷◌, ◌++◌, All, length, map, take, Bool, true, false, ◌&&◌}
use Rattle.std.specs.Prelude.{Result, Ok, Err, Some, None, nat_lt, codes, bytes_eq, if◌then◌else◌}
use Rattle.std.specs.List.{AllZip, list_all}
use Rattle.pmp_core.specs.declared.decision.Decision.{Decision}
use Rattle.pmp_core.specs.declared.event.Event.{Event}
use Rattle.pmp_core.specs.declared.size.Size.{Size}
use Rattle.pmp_core.specs.declared.size.Size.TheVariants.{Sixteen, SixtyFour}
use Rattle.pmp_core.specs.Decision.{IsDecision}
use Rattle.pmp_core.specs.Hart.{profile_of}
use Rattle.pmp_core.specs.Histories.{joined, file_after}
use Rattle.pmp_core.specs.RegisterFile.{IsLegal, reset_file}
use Rattle.pmp_core.specs.SizeLaw.{writes_first}
use Rattle.pmp_text.specs.declared.fault.Fault.{Fault}
use Rattle.pmp_text.specs.declared.refusal.Refusal.TheVariants.{BadVersion, TooLong}
use Rattle.pmp_text.specs.declared.script.version.Version.TheVariants.{Sized}
use Rattle.pmp_text.specs.declared.trace.TraceRow.{TraceRow}
use Rattle.pmp_text.specs.Contents.{Publications, ScriptContents}
use Rattle.pmp_text.specs.declared.script.reader.TheConstants.{MAX_SCRIPT}
use Rattle.pmp_text.specs.Lines.{words, lines}
use Rattle.pmp_text.specs.Moments.{unnamed_moments}
use Rattle.pmp_text.specs.Reports.{IsReport, file_of_script, report_text}
use Rattle.pmp_text.specs.ScriptLines.{Line, counts, significant_lines, version_flaw}
use Rattle.pmp_text.specs.Scripts.{published_behind, for_unit}
use Rattle.pmp_text.specs.Scripts.{script_meaning}
use Rattle.pmp_text.specs.ScriptLines.{version_named}
use Rattle.pmp_text.specs.Traces.{row_fields, trace_meaning}
use Rattle.pmp_text.specs.Flaws.{at_line, as_whole}

-- ---- version 1

-- the words `pmp` and `1`
unfoldable pub is_version_one : List (List ℕ) → Bool
is_version_one (name ∷ version ∷ []) = bytes_eq name (codes "pmp") && bytes_eq version (codes "1")
is_version_one _ = false

-- what lines mean if version 1 is the only one
abbrev pub lines_meaning_in_one : List Line → Result Publications Fault
lines_meaning_in_one [] = Err (at_line 1 (as_whole BadVersion))
lines_meaning_in_one (version ∷ more) =
    if is_version_one version.words
    then published_behind version more (Sized Sixteen)
    else Err (at_line version.number (version_flaw version.words))

-- what a text means if version 1 is the only one
abbrev pub meaning_in_one : List ℕ → Result Publications Fault
meaning_in_one text =
    if nat_lt MAX_SCRIPT (length text) then Err (at_line 0 (as_whole TooLong))
    else lines_meaning_in_one (significant_lines text)

-- the first significant line of the text has the words `pmp` and `1`
pub record IsVersionOne (text : List ℕ) : Type 0 where
  pub version : Line
  pub more : List Line
  pub lines_are : significant_lines text ≡ version ∷ more
  pub says : version.words ≡ codes "pmp" ∷ codes "1" ∷ []

-- the report if version 1 is the only one: the trace has these rows, and the text reports their decisions, each in the
-- file of 16 entries after the publications that the row asks for
pub record IsReportInOne (batches : List (List Event)) (trace text : List ℕ) : Type 0 where
  pub rows : List TraceRow
  pub decisions : List Decision
  pub trace_means : trace_meaning (unnamed_moments (length batches)) trace ≡ Ok (map row_fields rows)
  pub decided : AllZip (λ row decision. IsDecision (file_after (profile_of Sixteen) (take row.after batches)) row.access decision)
      rows decisions
  pub report : text ≡ report_text rows decisions

-- these publications take place in a unit of 16 entries, from reset on, and nothing is expected
abbrev pub in_sixteen : (batches : List (List Event)) → (lines : List (List ℕ)) → ScriptContents
in_sixteen batches lines = record {
  size = Sixteen;
  start = reset_file (profile_of Sixteen);
  batches = batches;
  lines = lines;
  expectations = [];
  marks = None;
}

-- it has the fault or the publications that it has if that version is the only one, these take place in a unit of 16
-- entries, and every trace has the same report as there
pub record MeansAsInOne (text : List ℕ) : Type 0 where
  pub meaning : script_meaning text ≡ for_unit Sixteen (meaning_in_one text)
  pub files : (batches : List (List Event)) (lines : List (List ℕ)) (done : ℕ)
      → file_of_script (in_sixteen batches lines) done
      ≡ file_after (profile_of Sixteen) (take done batches)
  pub reports : (batches : List (List Event)) (lines : List (List ℕ)) (trace text : List ℕ)
      → IsReport (in_sixteen batches lines) trace text
      ↔ IsReportInOne batches trace text

abbrev pub VersionOneLaw : Type 0
VersionOneLaw = (text : List ℕ) → IsVersionOne text → MeansAsInOne text

-- ---- version 2

-- the other text is the same, except that its first significant line has the words `pmp` and `2`, not `pmp` and `1`
pub record IsSameInTwo (one two : List ℕ) : Type 0 where
  pub before : List (List ℕ)
  pub version : List ℕ
  pub other : List ℕ
  pub after : List (List ℕ)
  pub lines_of_one : lines one ≡ before ++ version ∷ after
  pub lines_of_two : lines two ≡ before ++ other ∷ after
  pub insignificant : All (λ line. counts (words line) ≡ false) before
  pub says_one : words version ≡ codes "pmp" ∷ codes "1" ∷ []
  pub says_two : words other ≡ codes "pmp" ∷ codes "2" ∷ []
  pub as_long : length two ≡ length one

-- the same publications, in a unit of 64 entries, from reset on
abbrev pub in_sixty_four : ScriptContents → ScriptContents
in_sixty_four script = record script { size = SixtyFour; start = reset_file (profile_of SixtyFour) }

-- the same publications, and the same report for every trace
pub record ReportsAlike (two : List ℕ) (script : ScriptContents) : Type 0 where
  pub meaning : script_meaning two ≡ Ok (in_sixty_four script)
  pub reports : (trace text : List ℕ) → IsReport script trace text ↔ IsReport (in_sixty_four script) trace text

-- a script of version 1 without a fault that writes only to the first 16 entries reports the same in version 2
abbrev pub VersionTwoLaw : Type 0
VersionTwoLaw = (one two : List ℕ) (script : ScriptContents) → IsSameInTwo one two → script_meaning one ≡ Ok script
    → list_all (writes_first 16) (joined script.batches) ≡ true → ReportsAlike two script

-- ---- versions without a head

-- the first significant line of the text has the words `pmp` and the number of a version for a unit of this size
pub record IsSized (text : List ℕ) (size : Size) : Type 0 where
  pub first : Line
  pub more : List Line
  pub lines_are : significant_lines text ≡ first ∷ more
  pub says : version_named first.words ≡ Some (Sized size)

-- a script of version 1 or 2 is for the unit of its size, from reset on, expects nothing, and names no moment
pub record HasNoHead (size : Size) (script : ScriptContents) : Type 0 where
  pub sized : script.size ≡ size
  pub start : script.start ≡ reset_file (profile_of size)
  pub nothing : script.expectations ≡ []
  pub unnamed : script.marks ≡ None

abbrev pub NoHeadLaw : Type 0
NoHeadLaw = (text : List ℕ) (size : Size) (script : ScriptContents) → IsSized text size
    → script_meaning text ≡ Ok script → HasNoHead size script

-- ---- where units start

-- a script's unit starts from a register file that its hart can have
abbrev pub LegalStartLaw : Type 0
LegalStartLaw = (text : List ℕ) (script : ScriptContents) → script_meaning text ≡ Ok script → IsLegal script.start
