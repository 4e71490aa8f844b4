use Rattle.std.proofs.Common.{◌+◌, ◌<◌, ◌∙◌, arith, length, subst}
use Rattle.std.proofs.Math.Seq.{map-set_same}
use Rattle.std.proofs.lemmas.List.{get_or_default}
use Rattle.pmp_audit.specs.declared.policy_check.sweep.Judged.{Judged}
use Rattle.pmp_audit.specs.PolicySweep.{IsJudged}
use Rattle.pmp_audit.proofs.PolicySweep.{one_asked}
use Rattle.pmp_audit.proofs.policy_check.sweep.ask_all.Goals as goal

pub loop-row-preserved : goal.loop-row-preserved
loop-row-preserved c =
    let rows = c.loop-row.rows in
    let i = c.loop-row.row-index in
    let asked = c.ask.new.self in
    let one = c.row-item.result in
    let inside : i < length rows = omega (arith, c.loop-row-test.true, c.loop-row.auto.rows) in
    record {
      judged = λ pace script is before.
          let done = c.args.state.now.done in
          one_asked (IsJudged pace script done) (IsJudged pace script (done + 1)) rows i inside asked
          (λ was. c.ask.ensures.judged pace script is
          (subst (IsJudged pace script done) (get_or_default rows i asked one inside) was))
          (c.loop-row.invariant.judged pace script is before);
      rows = map-set_same (λ (j : Judged). j.row) rows i asked one c.ask.ensures.row ∙ c.loop-row.invariant.rows;
    }
