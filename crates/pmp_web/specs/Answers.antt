-- What an export returns: its status, and the room of its answer.
use Rattle.std.specs.Prelude.{◌≡◌, ◌⊎◌, ◌+◌, ◌++◌, ℕ, List, [], codes, length, Ok, Option, Some, None, decimal, true, false}
use Rattle.std.specs.List.{flat_map}
use Rattle.pmp_core.specs.declared.access.Access.{Access}
use Rattle.pmp_core.specs.declared.decision.Decision.{Decision}
use Rattle.pmp_text.specs.Columns.{ColumnValue, column_name, columns}
use Rattle.pmp_text.specs.Contents.{ScriptContents}
use Rattle.pmp_text.specs.declared.lines.row_kind.RowKind.{RowKind}
use Rattle.pmp_text.specs.Lines.{lines}
use Rattle.pmp_text.specs.Scripts.{script_meaning}
use Rattle.pmp_text.specs.Refusals.{number_of}
use Rattle.pmp_text.specs.declared.refusal.Refusal.{Refusal}
use Rattle.pmp_text.specs.declared.refusal.Refusal.TheVariants.{BadWord}
use Rattle.pmp_text.specs.declared.fault.Fault.{Fault}
use Rattle.pmp_text.specs.declared.fault.Place.{Place}
use Rattle.pmp_text.specs.declared.fault.Place.TheVariants.{In}
use Rattle.pmp_text.specs.declared.fault.Source.{Source}
use Rattle.pmp_text.specs.declared.fault.Source.TheVariants.{New, Policy, Trace}
use Rattle.pmp_text.specs.FaultPlaces.{number_in}
use Rattle.pmp_audit.specs.declared.write_list.WriteSummary.{WriteSummary}
use Rattle.pmp_audit.specs.Answers.{Declines, InCsv}
use Rattle.pmp_audit.specs.AskedFile.{FileRefuses}
use Rattle.pmp_audit.specs.View.{ListingSays, ViewSays}
use Rattle.pmp_audit.specs.WriteList.{WritesSay}
use Rattle.pmp_audit.specs.PolicyCheck.{VerdictRefuses, VerdictSays}
use Rattle.pmp_audit.specs.Reasons.{FindingsSay, ReasonsSay}
use Rattle.pmp_audit.specs.ScriptDiff.{DiffSays}
use Rattle.pmp_import.specs.declared.format.Format.{Format}
use Rattle.pmp_import.specs.declared.options.Options.{Options}
use Rattle.pmp_import.specs.LogTexts.{GivesNone, script_by}
use Rattle.pmp_text.specs.declared.lines.verdict.Verdict.{Verdict}
use Rattle.pmp_text.specs.declared.moments.When.TheVariants.{Number}
use Rattle.pmp_web.specs.declared.rooms.Answer.{Answer}
use Rattle.pmp_web.specs.declared.request.Question.{Question}
use Rattle.pmp_web.specs.declared.request.Shown.{Shown}
use Rattle.pmp_web.specs.declared.request.Shown.TheVariants as shown
use Rattle.pmp_map.specs.Request.{IsNamed}
use Rattle.pmp_web.specs.Request.{NamesNone}
use Rattle.pmp_web.specs.Rooms.{text_in}

-- which of two scripts is at fault
abbrev pub side_number : Place → ℕ
side_number (In New number part) = 256
side_number _ = 0

-- the line of a script or a log, or the row of a plan, of two the first
abbrev pub line_in : Source → (number : ℕ) → ℕ
line_in Trace number = 0
line_in Policy number = 0
line_in _ number = number

abbrev pub line_of : Place → ℕ
line_of (In source number part) = line_in source number
line_of place = number_in place

-- the call refuses, with the number of the refusal, this one more, and its line, and the room is empty
pub record IsRefused (added : ℕ) (fault : Fault) (status : ℕ) (answer : Answer) : Type 0 where
  pub number : status ≡ added + number_of fault.refusal
  pub line : answer.line ≡ line_of fault.place
  pub empty : text_in answer ≡ []

-- 256 more, if it is the new script's
pub record IsRefusal (Refuses : Fault → Type 0) (status : ℕ) (answer : Answer) : Type 0 where
  pub fault : Fault
  pub why : Declines Refuses fault
  pub told : IsRefused (side_number fault.place) fault status answer

-- the numbers name no question; no line is at fault, and the room is empty
pub record IsUnasked (refusal : Refusal) (status : ℕ) (answer : Answer) : Type 0 where
  pub status_is : status ≡ number_of refusal
  pub line : answer.line ≡ 0
  pub empty : text_in answer ≡ []

-- the room holds a text that satisfies Says, and no line is at fault, or the call refuses
abbrev pub Answers : (Says : List ℕ → Type 0) → (Refuses : Fault → Type 0) → (status : ℕ) → Answer → Type 0
Answers Says Refuses status answer =
    ((status ≡ 0) × (answer.line ≡ 0) × Says (text_in answer)) ⊎ IsRefusal Refuses status answer

-- the names of columns, a line each
abbrev pub name_lines : List ColumnValue → List ℕ
name_lines = flat_map (λ column. column_name column ++ codes "\n")

-- the kind of rows that the number names has these columns, or it names none
abbrev pub AnswersColumns : Option RowKind → (status : ℕ) → Answer → Type 0
AnswersColumns None status answer = IsUnasked BadWord status answer
AnswersColumns (Some kind) status answer = Answers (λ text. text ≡ name_lines (columns kind)) (λ fault. ⊥) status answer

-- the script has these contents, and the text is the number of its publications
pub record CountSays (script text : List ℕ) : Type 0 where
  pub contents : ScriptContents
  pub script_means : script_meaning script ≡ Ok contents
  pub text_is : text ≡ decimal (length contents.batches)

-- the text has a row for each event
abbrev pub RowsSay : (script text : List ℕ) → Type 0
RowsSay script text = (summary : WriteSummary) × InCsv (WritesSay [] script) summary text

-- the text has a row for each finding
abbrev pub LintAnswerSays : (script text : List ℕ) → Type 0
LintAnswerSays script text = (told : ℕ) × InCsv (FindingsSay script []) told text

-- the text has the row that says why it is decided so, and those of its answers at all moments
abbrev pub WhyAnswerSays : (script : List ℕ) → Access → (after : ℕ) → (text : List ℕ) → Type 0
WhyAnswerSays script access after text = (decision : Decision)
    × InCsv (ReasonsSay script access (Some (Number after))) decision text

-- the numbers name an access, which is answered, or they name none
abbrev pub AnswersAccess : (script : List ℕ) → (after mode kind start length status : ℕ) → Answer → Type 0
AnswersAccess script after mode kind start length status answer =
    ((access : Access) × IsNamed access mode kind start length
    × Answers (WhyAnswerSays script access after) (FileRefuses script (Some (Number after))) status answer)
    ⊎ ((refusal : Refusal) × NamesNone mode kind start length refusal × IsUnasked refusal status answer)

-- the rows of a listing, or the text of a view, after so many publications
abbrev pub ShownSays : Shown → (script : List ℕ) → (after : ℕ) → (text : List ℕ) → Type 0
ShownSays (shown.Rows listing) script after text = InCsv (ListingSays listing script (Some (Number after))) tt text
ShownSays (shown.Text view) script after text = ViewSays view None script (Some (Number after)) tt text

-- what the number names is shown, or it names nothing
abbrev pub AnswersView : (script : List ℕ) → (after : ℕ) → Option Shown → (status : ℕ) → Answer → Type 0
AnswersView script after None status answer = IsUnasked BadWord status answer
AnswersView script after (Some shown) status answer =
    Answers (ShownSays shown script after) (FileRefuses script (Some (Number after))) status answer

-- the text has the verdict on the row
abbrev pub VerdictAnswerSays : (script : List ℕ) → Question → (text : List ℕ) → Type 0
VerdictAnswerSays script it text =
    (verdict : Verdict) × InCsv (VerdictSays it.pace script it.number it.fields) verdict text

-- the row that the numbers name has its verdict, or they name none
abbrev pub AnswersVerdict : (script : List ℕ) → Option Question → (status : ℕ) → Answer → Type 0
AnswersVerdict script None status answer = IsUnasked BadWord status answer
AnswersVerdict script (Some it) status answer =
    Answers (VerdictAnswerSays script it) (VerdictRefuses script it.number it.fields) status answer

-- the text has the rows of the difference
abbrev pub DiffAnswerSays : (old : List ℕ) → (old_after : ℕ) → (new : List ℕ) → (new_after : ℕ) → (text : List ℕ)
    → Type 0
DiffAnswerSays old old_after new new_after text =
    (count : ℕ) × InCsv (DiffSays old (Some (Number old_after)) new (Some (Number new_after))
    (record { only = None; has_locks = false })) count text

-- ---- logs

-- no options are given, and the hart has Smepmp
abbrev pub guessed : Options
guessed = record {
  hart = None;
  is_rv32 = None;
  entries = None;
  grain = None;
  bits = None;
  has_smepmp = true;
  bursts = false;
}

-- the log gives no script; status and line are the refusal's, and the room is empty
pub record IsNoLog (format : Format) (log : List ℕ) (status : ℕ) (answer : Answer) : Type 0 where
  pub fault : Fault
  pub why : GivesNone format guessed (lines log) fault
  pub told : IsRefused 0 fault status answer

-- the room holds the script of a log of the format that the number names, or it names none
abbrev pub AnswersImport : (log : List ℕ) → Option Format → (status : ℕ) → Answer → Type 0
AnswersImport log None status answer = IsUnasked BadWord status answer
AnswersImport log (Some format) status answer =
    ((status ≡ 0) × (answer.line ≡ 0) × (script_by format guessed (lines log) ≡ Ok (text_in answer)))
    ⊎ IsNoLog format log status answer
