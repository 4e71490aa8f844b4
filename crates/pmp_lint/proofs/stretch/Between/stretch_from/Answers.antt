use Rattle.std.proofs.Common.{◌+◌, refl, sym, arith, true≢false}
use Rattle.pmp_lint.proofs.Stretches.{alike_more, opened_once}
use Rattle.pmp_lint.proofs.stretch.Between.stretch_from.Goals as goal

pub returns-then-not-is_like-clause-longest : goal.returns-then-not-is_like-clause-longest
returns-then-not-is_like-clause-longest c =
    let so_far = c.loop-stretch.invariant in
    let next = c.owned_from-next in
    let end = c.loop-stretch.stretch.last + 1 in
    let there = next.ensures.alike end (omega arith) next.ensures.proper in
    record {
      proper = omega (arith, so_far.begins, so_far.proper);
      below = so_far.below;
      alike = λ byte from to. so_far.alike byte (omega (arith, from, so_far.begins)) to;
      longest = λ inside here.
          let same = opened_once c.args.self.now.before.now c.args.self.now.during.now c.args.self.now.after.now end
          next.result.is_opened c.loop-stretch.stretch.is_opened there here in
          absurd (true≢false (sym (c.if-not-is_like.ensures.no same)));
    }

pub loop-stretch-preserved : goal.loop-stretch-preserved
loop-stretch-preserved c =
    let so_far = c.loop-stretch.invariant in
    let next = c.owned_from-next in
    let same = c.if-not-is_like.ensures.yes refl in
    record {
      begins = so_far.begins;
      proper = omega (arith, next.ensures.proper, so_far.proper);
      below = next.ensures.below;
      alike = alike_more c.args.self.now.before.now c.args.self.now.during.now c.args.self.now.after.now
          c.args.first c.loop-stretch.stretch.last next.result.last c.loop-stretch.stretch.is_opened
          so_far.alike (rw same at next.ensures.alike);
    }

pub returns-clause-longest : goal.returns-clause-longest
returns-clause-longest c =
    let so_far = c.loop-stretch.invariant in
    record {
      proper = omega (arith, so_far.begins, so_far.proper);
      below = so_far.below;
      alike = λ byte from to. so_far.alike byte (omega (arith, from, so_far.begins)) to;
      longest = λ inside. absurd (omega (arith, inside, c.loop-stretch-test.false));
    }
