-- What a worker of a shared audit knows and does.
use Rattle.std.specs.Prelude.{◌≡◌, ℕ, ◌<◌, ◌≤◌, ◌%◌, ◌/◌, List, map, slice_get, ⊤}
use Rattle.std.specs.List.{enumerate_from}
use Rattle.pmp_share.specs.declared.knowledge.Known.{Known}
use Rattle.pmp_share.specs.Tokens.{UnitId}
use Rattle.pmp_core.specs.declared.decision.Decision.{Decision}
use Rattle.pmp_core.specs.Ranges.{decision_of}
use Rattle.pmp_core.specs.RegisterFile.{RegisterFile}
use Rattle.pmp_share.specs.Batches.{Batches, StartsWith, event_count, file_from}
use Rattle.pmp_text.specs.declared.trace.TraceRow.{TraceRow}
use Rattle.pmp_text.specs.declared.fault.Fault.{Fault}
use Rattle.pmp_audit.specs.declared.shared_audit.job.Done.{Done}
use Rattle.pmp_audit.specs.Answers.{Declines}
use Rattle.pmp_audit.specs.Fault.{Stopped}

-- a worker has the items whose place modulo the number of workers is its own, in order
abbrev pub IsDealt : {A : Type 0} → (worker workers : ℕ) → (all hand : List A) → Type 0
IsDealt worker workers all hand =
    (place : ℕ) → place % workers ≡ worker → slice_get hand (place / workers) ≡ slice_get all place

-- a prefix of what is known has `count` events and gives this file
pub record HasLearnt (known : Known) (count : ℕ) (file : RegisterFile) : Type 0 where
  pub told : Batches
  pub begins : StartsWith known.list told
  pub counted : count ≡ event_count told
  pub replayed : file ≡ file_from known.unit.base told
  pub reached : count ≤ event_count known.list

-- what may stop a round, or one of its workers, that was told of these batches
abbrev pub StopsRound : Batches → Fault → Type 0
StopsRound told = Declines (Stopped (λ seen. event_count told < seen))

abbrev pub decided_in : RegisterFile → List TraceRow → List Decision
decided_in file rows = map (λ row. decision_of file row.access) rows

-- a worker's checker is of the same unit, and it returns the decisions in this file on the worker's rows, with their
-- numbers, which begin at `first` for all rows
pub record IsDone (unit : UnitId) (file : RegisterFile) (worker workers first : ℕ) (rows : List TraceRow) (done : Done)
    : Type 0 where
  pub same_unit : done.checker.unit ≡ unit
  pub dealt : IsDealt worker workers (enumerate_from first (decided_in file rows)) done.decisions.items
