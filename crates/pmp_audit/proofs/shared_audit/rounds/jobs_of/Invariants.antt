use Rattle.std.proofs.Common.{◌≡◌, ◌++◌, length}
use Rattle.std.specs.Vec.Iter.{into_iter_items, into_iter_len}
use Rattle.pmp_audit.specs.Rounds.{AreJobs}
use Rattle.pmp_audit.proofs.shared_audit.rounds.jobs_of.Given as goal

-- the checkers so far have a job
abbrev pub invariant-loop-checker : goal.invariant-loop-checker
invariant-loop-checker l = record {
  whole : l.yielded ++ into_iter_items l.checker-iterator ≡ l.fn.checkers.items;
  left : into_iter_len l.checker-iterator ≡ length (into_iter_items l.checker-iterator);
  same : l.publisher ≡ l.fn.publisher;
  jobs : AreJobs l.publisher (length l.yielded) l.jobs.items;
}
