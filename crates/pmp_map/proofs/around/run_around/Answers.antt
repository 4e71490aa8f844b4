use Rattle.std.proofs.Common.{◌≡◌, ◌<◌, max, refl, arith}
use Rattle.pmp_core.specs.Ranges.{IsInRange}
use Rattle.std.proofs.lemmas.Bool.{false≢true}
use Rattle.std.proofs.lemmas.Grind.{common_steps}
use Rattle.pmp_core.proofs.Legal.{legal_addresses}
use Rattle.pmp_map.proofs.CutFacts.{before, found_around, none, none_around, off_around, past}
use Rattle.pmp_map.proofs.around.run_around.Goals as goal
use Rattle.pmp_map.proofs.around.run_around.Goals.{then-range+then-range-byte, else-range+then-range-2, else-range-via-then-range+else-range-byte, else-range-via-else-range, else-range+else-range-2}

pub returns-then-contains-clause-run : goal.returns-then-contains-clause-run
returns-then-contains-clause-run c =
    let tested = rw c.if-contains.true at c.contains.ensures in
    let loop = c.loop-index in
    let low : c.max.result ≡ max loop.first c.range-range.result.start = grind (arith, common_steps) in
    found_around c.args.registers.now c.args.byte loop.index c.range-range.result c.range-range.ensures
    loop.first loop.end loop.invariant.0 loop.invariant.1
    (legal_addresses c.args.registers.now c.count.ensures.legal) _ refl (tested.0 refl) low
    (omega (arith, c.min.ensures))

pub loop-index-preserved-then-eq : goal.loop-index-preserved-then-eq
loop-index-preserved-then-eq c =
    let loop = c.loop-index in
    off_around c.args.registers.now c.args.byte loop.index loop.first loop.end loop.invariant.0 loop.invariant.1
    c.count_off-index.result c.count_off-index.ensures.off

pub loop-index-preserved : goal.loop-index-preserved
loop-index-preserved c =
    let loop = c.loop-index in
    let range = c.range-range.result in
    let tested = rw c.if-contains.false at c.contains.ensures in
    let without : ¬ (IsInRange range c.args.byte) = λ has. false≢true (tested.1 has) in
    let file = c.args.registers.now in
    let byte = c.args.byte in
    let is = c.range-range.ensures in
    let down = loop.invariant.0 in
    let up = loop.invariant.1 in
    elim c.if-range.branch [
      | then-range+then-range-byte w ↦
          let all = past file byte loop.index range is loop.first loop.end down up without _ w.if-range.true
          w.if-range-byte.true w.max-first.ensures in
          rw (w.first-is, w.end-is) (all.below, all.above)
      | else-range+then-range-2 w ↦
          let over : byte < range.end = elim w.else-range.branch [
            | else-range-via-then-range+else-range-byte v ↦ omega (arith, v.if-range-byte.false)
            | else-range-via-else-range v ↦ absurd (omega (arith, v.if-range.false, w.if-range-2.true))
          ] in
          let all = before file byte loop.index range is loop.first loop.end down up without _ w.if-range-2.true over
          w.min-end.ensures in
          rw (w.first-is, w.end-is) (all.below, all.above)
      | else-range+else-range-2 w ↦
          let all = none file byte loop.index range is loop.first loop.end down up without (omega (arith, w.if-range-2.false)) in
          rw (w.first-is, w.end-is) (all.below, all.above)
    ]

pub returns-clause-run : goal.returns-clause-run
returns-clause-run c =
    let loop = c.loop-index in
    none_around c.args.registers.now c.args.byte loop.index _ refl
    loop.first loop.end loop.invariant.0 loop.invariant.1
    (legal_addresses c.args.registers.now c.count.ensures.legal)
    (omega (arith, c.loop-index-test.false, c.count.ensures.count)) _ refl refl refl
