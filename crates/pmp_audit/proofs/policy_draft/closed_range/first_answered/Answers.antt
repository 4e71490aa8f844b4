use Rattle.std.proofs.Common.{arith, inl, inr}
use Rattle.std.proofs.lemmas.Bool.{cases_lt}
use Rattle.pmp_audit.proofs.AnsweredBytes.{answered, differ_given, same_given}
use Rattle.pmp_audit.proofs.policy_draft.closed_range.first_answered.Goals as goal

pub returns-then-is_open-allowed : goal.returns-then-is_open-allowed
returns-then-is_open-allowed c =
    let file = c.args.registers.now in
    let run = c.run_around-run.ensures.run in
    record {
      before = c.loop-first.invariant;
      here = λ below.
          answered file c.loop-first.first c.run_around-run.result.owner c.args.mode c.args.kind below
          (run.owned c.loop-first.first run.here) c.args.allowed
          (same_given _ _ _ c.is_open.ensures c.if-is_open-allowed.true);
    }

pub loop-first-preserved : goal.loop-first-preserved
loop-first-preserved c =
    let file = c.args.registers.now in
    let run = c.run_around-run.ensures.run in
    record {
      forward = omega (arith, run.here, c.loop-first.invariant.forward);
      inside = omega (arith, run.inside);
      before = λ byte from below. elim (cases_lt byte c.loop-first.first) [
        | inl earlier ↦ c.loop-first.invariant.before byte from earlier
        | inr later ↦
            answered file byte c.run_around-run.result.owner c.args.mode c.args.kind (omega (arith, below, run.inside))
            (run.owned byte (omega (arith, later, run.here), omega (arith, below))) _
            (differ_given _ _ _ c.is_open.ensures c.if-is_open-allowed.false)
      ];
    }
