use Rattle.std.proofs.Common.{◌≡◌, ◌<◌, length, sym, add-one, arith}
use Rattle.std.proofs.Math.Seq.{take-length, take-suc}
use Rattle.pmp_map.proofs.tables.Tables.list.Goals as goal

pub loop-place-preserved : goal.loop-place-preserved
loop-place-preserved c = record {
  count = omega (arith, c.push.ensures.len, c.loop-place.invariant.count);
  listed = λ file are.
      let place = c.loop-place.place in
      let inside : place < length are.list = omega (arith, c.loop-place-test.true, c.min-place-end.ensures, are.count) in
      rw (c.push.ensures.items, c.loop-place.invariant.listed file are, c.run_at.ensures file are inside, add-one)
      (sym (take-suc are.list place _ inside));
}

pub returns : goal.returns
returns c = λ file are.
    let place = c.loop-place.place in
    let all : place ≡ length are.list =
    omega (arith, c.loop-place-test.false, c.loop-place.auto.place-end, c.min-place-end.ensures, are.count, are.few) in
    rw (c.loop-place.invariant.listed file are, all, take-length) are.runs_are
