use Rattle.std.proofs.Common.{arith, inl, inr, refl}
use Rattle.std.proofs.lemmas.Bool.{cases_lt, false≢true}
use Rattle.pmp_plan.proofs.Giving.{given_by_owner, given_of_owner}
use Rattle.pmp_plan.proofs.unmet.first_unmet.Goals as goal

pub returns-then-not-owner_gives : goal.returns-then-not-owner_gives
returns-then-not-owner_gives c =
    let file = c.args.registers.now in
    let at = c.loop-at.at in
    let owner = c.run_around-run.result.owner in
    let run = c.run_around-run.ensures.run in
    let owned = run.owned at run.here in record {
      from = c.loop-at.invariant.from;
      to = c.loop-at-test.true;
      before = c.loop-at.invariant.all;
      differs = λ given. false≢true
          (c.if-not-owner_gives.ensures.no (given_of_owner file at owner owned c.args.demand given));
      seen = record { owned = owned; rights = c.of_owner.ensures; held = c.is_held.ensures };
    }

pub loop-at-preserved : goal.loop-at-preserved
loop-at-preserved c =
    let file = c.args.registers.now in
    let at = c.loop-at.at in
    let owner = c.run_around-run.result.owner in
    let run = c.run_around-run.ensures.run in record {
      from = omega (arith, run.here, c.loop-at.invariant.from);
      all = λ byte from below. elim (cases_lt byte at) [
        | inl before ↦ c.loop-at.invariant.all byte from before
        | inr here ↦
            given_by_owner file byte owner (run.owned byte (omega (arith, here, run.here), omega (arith, below)))
            c.args.demand (c.if-not-owner_gives.ensures.yes refl)
      ];
    }

pub returns : goal.returns
returns c = λ byte from to. c.loop-at.invariant.all byte from (omega (arith, to, c.loop-at-test.false))
