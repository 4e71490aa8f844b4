-- The rows that answer a question about a script, and why it has no answer.
use Rattle.std.specs.Prelude.{◌≡◌, ℕ, ◌<◌, List, length, Bool, true, false, ◌&&◌, nat_le, Option, Some, None, ⊤}
use Rattle.std.specs.Prelude.{Result, Ok, Err, if◌then◌else◌}
use Rattle.pmp_text.specs.Cells.{RowValue}
use Rattle.pmp_text.specs.MetNames.{Named}
use Rattle.pmp_text.specs.ScriptLines.{is_headed}
use Rattle.pmp_text.specs.declared.moments.When.{When}
use Rattle.pmp_text.specs.declared.moments.When.TheVariants.{Labelled, Number}
use Rattle.pmp_text.specs.declared.refusal.Refusal.{Refusal}
use Rattle.pmp_text.specs.declared.refusal.Refusal.TheVariants.{NoRows}
use Rattle.pmp_text.specs.declared.script.reader.TheConstants.{MAX_HEADED_SCRIPT}
use Rattle.pmp_text.specs.declared.trace.reader.TheConstants.{MAX_TRACE}
use Rattle.pmp_text.specs.declared.fault.Fault.{Fault}
use Rattle.pmp_audit.specs.declared.policy_check.PolicySummary.{PolicySummary}
use Rattle.pmp_audit.specs.AccessCheck.{CheckSays}
use Rattle.pmp_audit.specs.Answers.{Declines}
use Rattle.pmp_audit.specs.AskedFile.{FileRefuses, ScriptRefuses}
use Rattle.pmp_audit.specs.AuditedRows.{AuditRowsSay}
use Rattle.pmp_audit.specs.PolicyCheck.{PolicyRefuses}
use Rattle.pmp_audit.specs.PolicyTexts.{PolicySays}
use Rattle.pmp_audit.specs.Reasons.{FindingsSay, ReasonsSay}
use Rattle.pmp_audit.specs.ScriptDiff.{DiffRefuses, DiffSays}
use Rattle.pmp_audit.specs.TraceAudit.{AuditRefuses}
use Rattle.pmp_audit.specs.View.{ListingSays}
use Rattle.pmp_audit.specs.WriteList.{WritesSay}
use Rattle.pmp_tool.specs.declared.argument.Argument.{Argument}
use Rattle.pmp_tool.specs.declared.argument.Argument.TheVariants as argument
use Rattle.pmp_tool.specs.declared.failure.Failure.{Failure}
use Rattle.pmp_tool.specs.declared.failure.Failure.TheVariants.{Refused}
use Rattle.pmp_tool.specs.declared.fault_line.FaultLine.{FaultLine}
use Rattle.pmp_tool.specs.declared.outcome.Outcome.{Outcome}
use Rattle.pmp_tool.specs.declared.outcome.Outcome.TheVariants.{Audited, Compared, Decided, Explained, Found, Judged, Listed, Replayed}
use Rattle.pmp_tool.specs.declared.request.Policy.{Policy as AskedPolicy}
use Rattle.pmp_tool.specs.declared.request.Question.{Question}
use Rattle.pmp_tool.specs.declared.request.Question.TheVariants as question
use Rattle.pmp_tool.specs.Failures.{refused, unread, failed}
use Rattle.pmp_tool.specs.Inputs.{AreBytesOf, CantBeRead, Paths}
use Rattle.pmp_tool.specs.Words.{bad_word}
use Rattle.pmp_text.specs.declared.fault.Source.{Source}
use Rattle.pmp_text.specs.declared.fault.Source.TheVariants as source

-- which script it is, if there are two
abbrev pub script_source : Question → Source
script_source (question.Diff diff) = source.Old
script_source _ = source.Script

-- words may name moments of the script
abbrev pub has_names : (script : List ℕ) → Bool
has_names script = nat_le (length script) MAX_HEADED_SCRIPT && is_headed script

-- an argument names a moment only of a script whose version has named moments
abbrev pub name_allowed : (script : List ℕ) → Argument → Option When → Result (Unit {0}) FaultLine
name_allowed script argument None = Ok tt
name_allowed script argument (Some (Number number)) = Ok tt
name_allowed script argument (Some (Labelled label)) = if has_names script then Ok tt else Err (bad_word argument)

-- the rows have the names of their ranges, if names are given
abbrev pub takes_names : Question → Bool
takes_names (question.List listing after) = true
takes_names (question.Policy policy) = true
takes_names (question.Lint accepted) = true
takes_names (question.Diff diff) = true
takes_names _ = false

abbrev pub names_for : Question → Option (List Named) → Option (List Named)
names_for question names = if takes_names question then names else None

-- a policy that must have a row has one
abbrev pub HasRows : (is_strict : Bool) → PolicySummary → Type 0
HasRows true summary = 0 < summary.rows
HasRows false summary = ⊤

-- these rows belong to this outcome of a question about the script
abbrev pub RowsSay : (paths : Paths) (script : List ℕ) → Question → Outcome → (rows : List RowValue) → Type 0
RowsSay paths script (question.Check check) (Decided decision asked) rows =
    (asked ≡ check) × CheckSays script check.access check.after decision rows
RowsSay paths script (question.Why why) (Explained decision is_bare) rows =
    (is_bare ≡ why.is_bare) × ReasonsSay script why.access why.after decision rows
RowsSay paths script (question.Audit audit) (Audited summary) rows =
    (trace : List ℕ) × AreBytesOf (paths.traces audit.trace.now) trace × AuditRowsSay script trace summary rows
RowsSay paths script (question.Policy policy) (Judged summary) rows =
    (text : List ℕ) × AreBytesOf (paths.traces policy.path.now) text
    × PolicySays policy.asked.breaches policy.asked.pace script text summary rows × HasRows policy.is_strict summary
RowsSay paths script (question.List listing after) Listed rows = ListingSays listing script after tt rows
RowsSay paths script (question.Writes accepted) (Replayed summary) rows = WritesSay accepted.now script summary rows
RowsSay paths script (question.Lint accepted) (Found told) rows = FindingsSay script accepted.now told rows
RowsSay paths script (question.Diff diff) (Compared count) rows =
    (new : List ℕ) × AreBytesOf (paths.scripts diff.new.now) new
    × DiffSays script diff.old_after new diff.new_after diff.changes count rows
RowsSay _ _ _ _ _ = ⊥

-- ---- why there are none

-- a call refuses, or memory ran out
pub record IsDeclined (Refuses : Fault → Type 0) (failure : Failure) : Type 0 where
  pub fault : Fault
  pub is : failure ≡ failed fault
  pub declined : Declines Refuses fault

-- an input can't be read, which is this failure, or processing its bytes fails
pub data InputFails (limit : ℕ) (known : Option (List ℕ)) (cant : Refusal → Failure) (Fails : List ℕ → Failure → Type 0)
    : Failure → Type 0 where
  unread_input : (fault : Refusal) → CantBeRead limit known fault → InputFails limit known cant Fails (cant fault)
  read_input : (bytes : List ℕ) (failure : Failure) → AreBytesOf known bytes → Fails bytes failure
      → InputFails limit known cant Fails failure

-- the same for a trace or a policy
abbrev pub TraceFails : (known : Option (List ℕ)) → (List ℕ → Failure → Type 0) → Failure → Type 0
TraceFails known = InputFails MAX_TRACE known refused

-- an argument names a moment of a script whose version has none, or what follows fails
pub data MomentFails (script : List ℕ) (argument : Argument) (when : Option When) (Fails : Failure → Type 0)
    : Failure → Type 0 where
  unnamed_moment : (fault : FaultLine) → name_allowed script argument when ≡ Err fault
      → MomentFails script argument when Fails (Refused fault)
  allowed_moment : (failure : Failure) → name_allowed script argument when ≡ Ok tt → Fails failure
      → MomentFails script argument when Fails failure

-- a policy is refused, or has no row and must have one
pub data PolicyFails (asked : AskedPolicy) (script policy : List ℕ) : Failure → Type 0 where
  unjudged : (failure : Failure) → IsDeclined (PolicyRefuses script policy) failure → PolicyFails asked script policy failure
  is_empty : (summary : PolicySummary) (rows : List RowValue) → asked.is_strict ≡ true
      → PolicySays asked.asked.breaches asked.asked.pace script policy summary rows → summary.rows ≡ 0
      → PolicyFails asked script policy (refused NoRows)

abbrev pub RowsFail : (paths : Paths) (script : List ℕ) → Question → Failure → Type 0
RowsFail paths script (question.Check check) =
    MomentFails script argument.After check.after (IsDeclined (FileRefuses script check.after))
RowsFail paths script (question.Why why) =
    MomentFails script argument.After why.after (IsDeclined (FileRefuses script why.after))
RowsFail paths script (question.Audit audit) =
    TraceFails (paths.traces audit.trace.now) (λ trace. IsDeclined (AuditRefuses script trace))
RowsFail paths script (question.Policy policy) = TraceFails (paths.traces policy.path.now) (PolicyFails policy script)
RowsFail paths script (question.List listing after) =
    MomentFails script argument.After after (IsDeclined (FileRefuses script after))
RowsFail paths script (question.Writes accepted) = IsDeclined (ScriptRefuses script)
RowsFail paths script (question.Lint accepted) = IsDeclined (ScriptRefuses script)
RowsFail paths script (question.Diff diff) =
    MomentFails script argument.OldAfter diff.old_after
    (InputFails MAX_HEADED_SCRIPT (paths.scripts diff.new.now) (λ fault. unread fault source.New)
    (λ new. MomentFails new argument.NewAfter diff.new_after
    (IsDeclined (DiffRefuses script diff.old_after new diff.new_after))))

-- ---- the script at a path

-- the moment that is asked for of a list
abbrev pub listed_at : Question → Option When
listed_at (question.List listing after) = after
listed_at _ = None

-- a word that is no number is none of a script that can't be read: the `--after` of a view is refused before that
abbrev pub unscripted : Option When → Failure → Failure
unscripted (Some (Labelled label)) failure = Refused (bad_word argument.After)
unscripted _ failure = failure

module _ (paths : Paths) (path : List ℕ) (question : Question) where
  pub record PathSays (outcome : Outcome) (rows : List RowValue) : Type 0 where
    pub script : List ℕ
    pub read : AreBytesOf (paths.scripts path) script
    pub says : RowsSay paths script question outcome rows

  pub data PathFails : Failure → Type 0 where
    no_script : (fault : Refusal) → CantBeRead MAX_HEADED_SCRIPT (paths.scripts path) fault
        → PathFails (unscripted (listed_at question) (unread fault (script_source question)))
    of_script : (script : List ℕ) (failure : Failure) → AreBytesOf (paths.scripts path) script
        → RowsFail paths script question failure → PathFails failure
