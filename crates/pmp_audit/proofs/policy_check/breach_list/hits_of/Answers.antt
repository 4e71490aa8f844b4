use Rattle.std.proofs.Common.{◌∙◌, sym}
use Rattle.pmp_audit.specs.PolicyBreaches.{hit_of}
use Rattle.pmp_audit.proofs.PolicyBegun.{none_kept, one_kept}
use Rattle.pmp_audit.proofs.policy_check.breach_list.hits_of.Goals as goal
use Rattle.pmp_audit.proofs.policy_check.breach_list.hits_of.Goals.{in-Some+in_ok-push, in_default}

pub loop-run-preserved : goal.loop-run-preserved
loop-run-preserved c =
    let hit = hit_of c.args.question c.registers-registers.result c.args.row.now in
    elim c.match-hit_of.branch [
      | in-Some+in_ok-push w ↦ rw (w.hits-is, w.in_ok-push.ensures.items)
          (one_kept hit c.runs-run-items.result.now c.loop-run.run-index _ _ _ c.loop-run-test.true
          c.loop-run.invariant w.in-Some.hit (sym c.hit_of.ensures ∙ w.in-Some.is))
      | in_default w ↦ rw w.hits-is
          (none_kept hit c.runs-run-items.result.now c.loop-run.run-index _ _ _ c.loop-run-test.true
          c.loop-run.invariant (sym c.hit_of.ensures ∙ w.in_default.is))
    ]
