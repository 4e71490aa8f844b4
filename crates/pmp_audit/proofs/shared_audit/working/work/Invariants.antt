use Rattle.std.proofs.Common.{◌≡◌, ◌+◌, ◌*◌, ◌-◌, ◌<◌, length}
use Rattle.std.specs.List.{enumerate_from}
use Rattle.pmp_share.specs.Batches.{event_count, file_from}
use Rattle.pmp_audit.specs.Working.{HasLearnt, decided_in}
use Rattle.pmp_audit.proofs.Dealing.{IsDealtSoFar}
use Rattle.pmp_audit.proofs.shared_audit.working.work.Given as goal

-- what the notice tells of is learnt, and the worker's rows before this place are decided in it
abbrev pub invariant-loop-place : goal.invariant-loop-place
invariant-loop-place g l = record {
  same_unit : l.checker.unit ≡ l.fn.job.checker.unit;
  learnt : HasLearnt l.checker l.count l.file;
  file_is : l.file ≡ file_from l.fn.job.checker.unit.base l.fn.job.notice.list;
  place_is : l.place ≡ l.worker + length l.decisions.items * l.round.workers;
  dealt : IsDealtSoFar l.worker l.round.workers (enumerate_from l.round.first (decided_in l.file l.round.rows.now))
      (length l.decisions.items) l.decisions.items;
  asked : 0 < length l.decisions.items → event_count l.checker.list ≡ l.count;
  count_is : l.count ≡ event_count l.fn.job.notice.list;
}

abbrev pub decreases-loop-place : goal.decreases-loop-place
decreases-loop-place g l = length l.round.rows.now - l.place
