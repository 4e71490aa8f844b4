use Rattle.std.proofs.Common.{◌≡◌, ◌++◌, length}
use Rattle.std.specs.Vec.Iter.{into_iter_items, into_iter_len}
use Rattle.pmp_audit.specs.Rounds.{AreResults}
use Rattle.pmp_audit.proofs.shared_audit.running.run_jobs.Given as goal

-- the jobs so far have their results
abbrev pub invariant-loop-job : goal.invariant-loop-job
invariant-loop-job g l = record {
  whole : l.yielded ++ into_iter_items l.job-iterator ≡ l.fn.jobs.items;
  left : into_iter_len l.job-iterator ≡ length (into_iter_items l.job-iterator);
  results : AreResults l.round.workers l.first l.rows l.yielded l.results.items;
}
