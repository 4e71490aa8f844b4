-- What the requests write that write as they go: an audit of one script, a long audit, and an import.
use Rattle.std.specs.Prelude.{◌≡◌, ◌⊎◌, ℕ, List, Option, Some, None, Ok, Err, true, false, codes, bytes_eq}
use Rattle.std.specs.Io.KnownBytes.{Keeps}
use Rattle.clap.specs.Words.{Text}
use Rattle.pmp_text.specs.declared.fault.Fault.{Fault}
use Rattle.pmp_import.specs.declared.given.Given.{Given}
use Rattle.pmp_import.specs.declared.survey.Survey.{Survey}
use Rattle.pmp_import.specs.Imported.{imported}
use Rattle.pmp_import.specs.Imports.{Stops, WroteFront}
use Rattle.pmp_import.specs.Surveys.{given_alone, given_for, surveyed}
use Rattle.pmp_text.specs.Lines.{lines}
use Rattle.pmp_text.specs.declared.refusal.Refusal.{Refusal}
use Rattle.pmp_text.specs.declared.script.reader.TheConstants.{MAX_HEADED_SCRIPT}
use Rattle.pmp_text.specs.declared.trace.reader.TheConstants.{MAX_TRACE}
use Rattle.pmp_audit.specs.declared.long_audit.TheConstants.{PIECE}
use Rattle.pmp_audit.specs.Answers.{IsRefused, IsWritten}
use Rattle.pmp_audit.specs.LongAudit.{LongAuditSays, StopsLong}
use Rattle.pmp_audit.specs.SharedAudit.{SharedAuditRefuses}
use Rattle.pmp_audit.specs.TraceAudit.{AuditRefuses, AuditSays}
use Rattle.pmp_tool.specs.declared.failure.Failure.{Failure}
use Rattle.pmp_tool.specs.declared.note.Note.{Note}
use Rattle.pmp_tool.specs.declared.note.Note.TheVariants.{Guessed, Taken}
use Rattle.pmp_tool.specs.declared.outcome.Outcome.{Outcome}
use Rattle.pmp_tool.specs.declared.outcome.Outcome.TheVariants.{Audited, Imported}
use Rattle.pmp_tool.specs.declared.request.Audit.{Audit}
use Rattle.pmp_tool.specs.declared.request.Import.{Import}
use Rattle.pmp_tool.specs.declared.request.LongAudit.{LongAudit}
use Rattle.pmp_tool.specs.declared.request.Question.TheVariants as question
use Rattle.pmp_tool.specs.declared.request.Printed.TheVariants as printed
use Rattle.pmp_tool.specs.declared.request.Request.{Request}
use Rattle.pmp_tool.specs.declared.request.Request.TheVariants as request
use Rattle.pmp_tool.specs.Failures.{refused, failed}
use Rattle.pmp_tool.specs.Harts.{AreFound}
use Rattle.pmp_tool.specs.Inputs.{AreBytesOf, CantBeOpened, CantBeRead, Inputs, Paths}

-- ---- imports

-- what is given for the hart, and what the note says of it: a log on standard input is read once, any other one twice,
-- first to guess
pub data IsGiven (known : Option (List ℕ)) (import : Import) : Given → Note → Type 0 where
  once : (given : Given) → bytes_eq import.log.now (codes "stdin") ≡ true
      → given ≡ given_alone import.format import.options
      → IsGiven known import given (Taken given.hart given.entries)
  twice : (given : Given) (seen : List ℕ) (survey : Survey) → bytes_eq import.log.now (codes "stdin") ≡ false
      → AreBytesOf known seen → surveyed import.format import.options.hart (lines seen) ≡ Ok survey
      → given_for import.format import.options survey ≡ Ok given
      → IsGiven known import given (Guessed given.hart given.entries survey.left)

-- the text is the log's script
pub record ImportSays (known : Option (List ℕ)) (import : Import) (note : Note) (text : List ℕ) : Type 0 where
  pub given : Given
  pub is_given : IsGiven known import given note
  pub log : List ℕ
  pub is_log : AreBytesOf known log
  pub gives : imported given (lines log) ≡ Ok text

-- why a log gives no script: nothing is written until it is known what is given for the hart
pub data ImportFails (known : Option (List ℕ)) (import : Import) (before after : Option (List ℕ)) : Failure → Type 0
  where
    unopened : (fault : Refusal) → CantBeOpened fault → Keeps before after
        → ImportFails known import before after (refused fault)
    unsurveyed : (seen : List ℕ) (fault : Fault) → AreBytesOf known seen
        → Stops (surveyed import.format import.options.hart) seen fault → Keeps before after
        → ImportFails known import before after (failed fault)
    ungiven : (seen : List ℕ) (survey : Survey) (fault : Fault) → AreBytesOf known seen
        → surveyed import.format import.options.hart (lines seen) ≡ Ok survey
        → given_for import.format import.options survey ≡ Err fault → Keeps before after
        → ImportFails known import before after (failed fault)
    unwritten : (given : Given) (note : Note) (log : List ℕ) (fault : Fault) → IsGiven known import given note
        → AreBytesOf known log → Stops (imported given) log fault → WroteFront given log before after fault
        → ImportFails known import before after (failed fault)

-- ---- audits

-- which faults an audit is refused for; several checkers may also lack a place
abbrev pub AuditByRefuses : (checkers : Option ℕ) (script trace : List ℕ) → Fault → Type 0
AuditByRefuses None script trace fault = AuditRefuses script trace fault
AuditByRefuses (Some count) script trace fault = SharedAuditRefuses script trace fault

-- the text is the report of the script's decisions on the trace
pub record ReportSays (paths : Paths) (path : Text) (audit : Audit) (outcome : Outcome) (text : List ℕ) : Type 0 where
  pub script : List ℕ
  pub script_read : AreBytesOf (paths.scripts path) script
  pub trace : List ℕ
  pub trace_read : AreBytesOf (paths.traces audit.trace.now) trace
  pub summary : _
  pub is : outcome ≡ Audited summary
  pub says : AuditSays script trace summary text

pub record LongReportSays (paths : Paths) (audit : LongAudit) (outcome : Outcome) (text : List ℕ) : Type 0 where
  pub script : List ℕ
  pub script_read : AreBytesOf (paths.scripts audit.script.now) script
  pub trace : List ℕ
  pub trace_read : AreBytesOf (paths.traces audit.trace.now) trace
  pub summary : _
  pub is : outcome ≡ Audited summary
  pub says : LongAuditSays script audit.first trace summary text

module _ (paths : Paths) (before after : Option (List ℕ)) where
  pub data ReportFails (path : Text) (audit : Audit) : Failure → Type 0 where
    no_script : (fault : Refusal) → CantBeRead MAX_HEADED_SCRIPT (paths.scripts path) fault → Keeps before after
        → ReportFails path audit (refused fault)
    no_trace : (fault : Refusal) → CantBeRead MAX_TRACE (paths.traces audit.trace.now) fault → Keeps before after
        → ReportFails path audit (refused fault)
    unaudited_trace : (script trace : List ℕ) (fault : Fault) → AreBytesOf (paths.scripts path) script
        → AreBytesOf (paths.traces audit.trace.now) trace
        → IsRefused (AuditSays script trace) before after (AuditByRefuses audit.checkers script trace) fault
        → ReportFails path audit (failed fault)

  pub data LongReportFails (audit : LongAudit) : Failure → Type 0 where
    no_long_script : (fault : Refusal) → CantBeRead MAX_HEADED_SCRIPT (paths.scripts audit.script.now) fault
        → Keeps before after → LongReportFails audit (refused fault)
    no_long_trace : (fault : Refusal) → CantBeOpened fault → Keeps before after → LongReportFails audit (refused fault)
    -- perhaps after whole rows
    stopped : (script trace : List ℕ) (fault : Fault) → AreBytesOf (paths.scripts audit.script.now) script
        → AreBytesOf (paths.traces audit.trace.now) trace → StopsLong PIECE script audit.first trace before after fault
        → LongReportFails audit (failed fault)

  -- ---- the three requests

  -- an audit of one script, a long audit, or an import without a folder, whose log has no names
  abbrev pub StreamSays : (logs : Inputs) → Request → Outcome → Type 0
  StreamSays logs (request.Print (printed.Ask path (question.Audit audit))) outcome =
      AreFound paths.folders path.now (question.Audit audit) None
      × IsWritten (ReportSays paths path.now audit) before after outcome
  StreamSays logs (request.LongAudit audit) outcome = IsWritten (LongReportSays paths audit) before after outcome
  StreamSays logs (request.Import import) (Imported note) =
      IsWritten (λ note. ImportSays (logs import.log.now) import note) before after note
  StreamSays _ _ _ = ⊥

  abbrev pub StreamFails : (logs : Inputs) → Request → Failure → Type 0
  StreamFails logs (request.Print (printed.Ask path (question.Audit audit))) failure =
      AreFound paths.folders path.now (question.Audit audit) None × ReportFails path.now audit failure
  StreamFails logs (request.LongAudit audit) failure = LongReportFails audit failure
  StreamFails logs (request.Import import) failure = ImportFails (logs import.log.now) import before after failure
  StreamFails _ _ _ = ⊥
