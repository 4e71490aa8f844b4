use denote.Param.Send.{sendable}
use Rattle.std.proofs.Common.{◌≡◌, ◌∙◌, ◌∷◌, [], Err, IfOk, Ok, Result, length, ap, arith, append_assoc}
use Rattle.std.proofs.Crossing.{crosses}
use Rattle.pmp_audit.proofs.Crossing.{job_send, done_send, fault_send}
use Rattle.pmp_audit.proofs.Merging.{one_result}
use Rattle.pmp_audit.proofs.shared_audit.running.run_jobs.Goals as goal

pub map_vec-requires-send-J : goal.map_vec-requires-send-J
map_vec-requires-send-J g c κs within = search (job_send, sendable) depth 6

pub map_vec-requires-send-X : goal.map_vec-requires-send-X
map_vec-requires-send-X g c κs within = search (done_send, fault_send, crosses, sendable) depth 14

both : {A E : Type 0} (P Q S : A → Type 0) (result : Result A E) → ((a : A) → P a → Q a → S a) → IfOk result P
    → IfOk result Q → IfOk result S
both P Q S (Ok a) make p q = make a p q
both P Q S (Err e) make p q = tt

pub returns-then-may_wait : goal.returns-then-may_wait
returns-then-may_wait g c =
    let workers : c.len.result ≡ length c.args.jobs.items =
    omega (arith, c.len.ensures, c.args.jobs.ok.0) in
    both _ _ _ c.map_vec.result (λ results many each. record {
      many = omega (arith, many, results.ok.0, c.args.jobs.ok.0);
      each = λ i d inside.
          let gives = (each i d inside).1 in
          (gives.job, gives.job_is, rw (← workers) gives.call.met);
    }) c.map_vec.ensures.len c.map_vec.ensures.each

pub loop-job-preserved : goal.loop-job-preserved
loop-job-preserved g c = record {
  whole = append_assoc c.loop-job.yielded (c.in-Some.job ∷ []) _
      ∙ rw c.in-Some.ensures.steps.0 at c.loop-job.invariant.whole;
  left =
      let was = c.loop-job.invariant.left in
      let gone = c.in-Some.ensures.steps.1 in
      let short = ap length c.in-Some.ensures.steps.0 in
      omega arith;
  results = rw c.in_ok-push.ensures.items (one_result c.len.result c.args.first c.args.rows.now c.loop-job.yielded
      c.loop-job.results.items c.loop-job.invariant.results c.in-Some.job c.work.result c.work.ensures.result);
}
