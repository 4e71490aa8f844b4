-- What is decided between two publications of a shared audit.
use Rattle.std.specs.Prelude.{◌≡◌, ℕ, ◌==◌, ◌<◌, ◌≤◌, List, [], ◌∷◌, All, length, map, take, drop, slice_get, Some}
use Rattle.std.specs.Prelude.{IfErr, IfOk, Result, if◌then◌else◌}
use Rattle.std.specs.List.{enumerate_from, slice_index_or}
use Rattle.pmp_core.specs.declared.decision.Decision.{Decision}
use Rattle.pmp_core.specs.Ranges.{decision_of}
use Rattle.pmp_share.specs.declared.knowledge.Known.{Known}
use Rattle.pmp_share.specs.Batches.{file_from}
use Rattle.pmp_share.specs.Known.{known}
use Rattle.pmp_share.specs.Tokens.{PublisherToken, UnitId}
use Rattle.pmp_text.specs.declared.trace.TraceRow.{TraceRow}
use Rattle.pmp_text.specs.Contents.{ScriptContents}
use Rattle.pmp_text.specs.Reports.{file_of_script}
use Rattle.pmp_text.specs.TraceFaults.{IsInOrder, afters}
use Rattle.pmp_text.specs.Traces.{row_fields}
use Rattle.pmp_text.specs.declared.fault.Fault.{Fault}
use Rattle.pmp_audit.specs.declared.shared_audit.job.Job.{Job}
use Rattle.pmp_audit.specs.declared.shared_audit.job.Done.{Done}
use Rattle.pmp_audit.specs.Working.{IsDealt, IsDone, StopsRound}

-- the leading rows that ask for exactly `after` publications
abbrev pub asking : (after : ℕ) → List TraceRow → List TraceRow
asking after [] = []
asking after (row ∷ rows) = if row.after == after then row ∷ asking after rows else []

-- the decision of a row in the file that it asks for
abbrev pub decision_for : ScriptContents → TraceRow → Decision
decision_for script row = decision_of (file_of_script script row.after) row.access

-- the rows so far are decided, and the others ask for at least `after` publications, in order
pub record AreDecidedSoFar (script : ScriptContents) (rows : List TraceRow) (after : ℕ) (decided : List Decision)
    : Type 0 where
  pub within : length decided ≤ length rows
  pub decisions : decided ≡ map (decision_for script) (take (length decided) rows)
  pub order : IsInOrder (length script.batches) after (afters (map row_fields (drop (length decided) rows)))

-- `count` checkers, all of one unit
pub record AreCheckersOf (unit : UnitId) (count : ℕ) (checkers : List Known) : Type 0 where
  pub many : length checkers ≡ count
  pub same_unit : All (λ checker. checker.unit ≡ unit) checkers

-- a checker of the publisher's unit, and a notice of all that is published
pub record IsJob (publisher : PublisherToken) (worker : ℕ) (job : Job) : Type 0 where
  pub numbered : job.worker ≡ worker
  pub same_unit : job.checker.unit ≡ publisher.unit
  pub notice : job.notice ≡ known publisher.unit publisher.published

-- `count` jobs, one for each worker
pub record AreJobs (publisher : PublisherToken) (count : ℕ) (jobs : List Job) : Type 0 where
  pub many : length jobs ≡ count
  pub each : (worker : ℕ) (job : Job) → slice_get jobs worker ≡ Some job → IsJob publisher worker job

-- a worker's result for its job: its rows of the round are decided, or something stopped it
pub record IsResult (workers first : ℕ) (rows : List TraceRow) (job : Job) (result : Result Done Fault) : Type 0 where
  pub done : IfOk result (IsDone job.checker.unit (file_from job.checker.unit.base job.notice.list) job.worker workers
      first rows)
  pub refused : IfErr result (StopsRound job.notice.list)

-- each job has such a result, at the job's place
pub record AreResults (workers first : ℕ) (rows : List TraceRow) (jobs : List Job) (results : List (Result Done Fault))
    : Type 0 where
  pub many : length results ≡ length jobs
  pub each : (i : ℕ) (d : Result Done Fault) → i < length jobs → (job : Job)
      × ((e : Job) → slice_index_or jobs i e ≡ job) × IsResult workers first rows job (slice_index_or results i d)

-- each worker returns its share of these decisions; the first decision's row is numbered `first`
abbrev pub AreDealt : (first : ℕ) → List Decision → List Done → Type 0
AreDealt first made all = (worker : ℕ) (done : Done) → slice_get all worker ≡ Some done
    → IsDealt worker (length all) (enumerate_from first made) done.decisions.items
