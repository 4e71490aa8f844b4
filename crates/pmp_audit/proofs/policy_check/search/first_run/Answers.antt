use Rattle.std.proofs.Common.{◌≡◌, arith, inl, inr}
use Rattle.std.proofs.lemmas.Bool.{cases_lt}
use Rattle.pmp_audit.proofs.PolicyAnswers.{no_by_owner, yes_by_owner}
use Rattle.pmp_audit.proofs.policy_check.search.first_run.Goals as goal

pub returns-then-is_yes : goal.returns-then-is_yes
returns-then-is_yes c =
    let is = c.registers-registers.ensures.same in
    let run = rw is at c.run_around-run.ensures.run in
    let file = c.args.file.now in
    let row = c.args.row.now in
    record {
      proper = omega (arith, run.here, c.loop-first-test.true, c.min.ensures);
      from = c.loop-first.invariant.from;
      to = omega (arith, c.min.ensures);
      all = λ byte here.
          yes_by_owner file row byte c.run_around-run.result.owner
          (omega (arith, here.1, c.min.ensures, run.inside))
          (run.owned byte (omega (arith, here.0, run.here), omega (arith, here.1, c.min.ensures)))
          c.args.question (rw (← is, ← c.is_yes.ensures) c.if-is_yes.true);
      first = c.loop-first.invariant.none;
      owned = λ byte here. run.owned byte (omega (arith, here.0, run.here), omega (arith, here.1, c.min.ensures));
      apart = λ less other owned same. run.after (omega (arith, less, c.min.ensures, row.inside))
          (let last : c.min.result ≡ c.run_around-run.result.last = omega (arith, less, c.min.ensures) in
          rw (← same, last) at owned);
    }

pub loop-first-preserved : goal.loop-first-preserved
loop-first-preserved c =
    let is = c.registers-registers.ensures.same in
    let run = rw is at c.run_around-run.ensures.run in
    let file = c.args.file.now in
    let row = c.args.row.now in
    record {
      from = omega (arith, run.here, c.loop-first.invariant.from);
      inside = omega (arith, run.inside);
      none = λ byte from below. elim (cases_lt byte c.loop-first.first) [
        | inl before ↦ c.loop-first.invariant.none byte from before
        | inr here ↦
            no_by_owner file row byte c.run_around-run.result.owner (omega (arith, below, run.inside))
            (run.owned byte (omega (arith, here, run.here), omega (arith, below)))
            c.args.question (rw (← is, ← c.is_yes.ensures) c.if-is_yes.false)
      ];
    }
