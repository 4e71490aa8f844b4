use Rattle.std.proofs.Common.{◌+◌, refl, sym, arith, true≢false}
use Rattle.pmp_map.proofs.ComparedRuns.{grown, once}
use Rattle.pmp_map.proofs.compared_run.compared_run_from.Goals as goal

pub loop-run-init : goal.loop-run-init
loop-run-init c =
    let e = c.owned_from-run.ensures in
    (e.begins, e.proper, e.below, λ byte from to. e.both byte (omega (arith, from, e.begins)) to)

pub returns-then-not-is_alike-clause-longest : goal.returns-then-not-is_alike-clause-longest
returns-then-not-is_alike-clause-longest c =
    let run = c.loop-run.run in
    let next = c.owned_from-next.result in
    let there = c.owned_from-next.ensures.both (run.last + 1) (omega arith) c.owned_from-next.ensures.proper in
    record {
      proper = omega (arith, c.loop-run.invariant.0, c.loop-run.invariant.1);
      below = c.loop-run.invariant.2;
      both = c.loop-run.invariant.3;
      longest = λ inside here.
          let same = once c.args.aspect c.args.old.now c.args.new.now (run.last + 1) next.both run.both there here in
          absurd (true≢false (sym (c.if-not-is_alike.ensures.no same)));
    }

pub loop-run-preserved : goal.loop-run-preserved
loop-run-preserved c =
    let run = c.loop-run.run in
    let next = c.owned_from-next in (
      c.loop-run.invariant.0,
      omega (arith, next.ensures.proper, c.loop-run.invariant.1),
      next.ensures.below,
      grown c.args.aspect c.args.old.now c.args.new.now run next.result c.loop-run.invariant.3
          (λ byte from to. next.ensures.both byte (omega (arith, from, next.ensures.begins)) to)
          next.ensures.begins (c.if-not-is_alike.ensures.yes refl),
    )
