use Rattle.std.proofs.Common.{◌+◌, arith, rules}
use Rattle.pmp_map.specs.Painting.{IsOwnerFrom}
use Rattle.pmp_map.proofs.Painted.{cut_down, painted, split, unpainted}
use Rattle.pmp_map.proofs.painting.Canvas.paint.Goals as goal
use Rattle.pmp_map.proofs.painting.Canvas.paint.Goals.{then-start-end, else-start-end}

pub returns-then-range-end-clause-painted : goal.returns-then-range-end-clause-painted
returns-then-range-end-clause-painted c = λ file is are.
    unpainted file c.args.entry c.args.self.now.below c.args.self.now.above
    (λ byte inside has. let in_range = rw (← is) at has in
    absurd (omega (arith, in_range.0, in_range.1, c.if-range-end.true, c.min-end.ensures))) are

pub loop-cut-init : goal.loop-cut-init
loop-cut-init c = search (rules, cut_down, split)

pub returns-clause-painted : goal.returns-clause-painted
returns-clause-painted c = λ file is are.
    let loop = c.loop-cut in
    let down = loop.invariant.down file is are in
    let none = c.in_default.ensures in
    let stays = none.1 in
    rw (c.push-2.ensures, stays) (painted file c.args.entry c.args.range.now is c.min-end.result
    (omega (arith, c.min-end.ensures)) (omega (arith, c.if-range-end.false))
    (λ less. omega (arith, c.min-end.ensures)) loop.self.below loop.self.above
    (cut_down (IsOwnerFrom file (c.args.entry + 1)) down.0 c.args.range.now.start loop.self.below down.2 down.1 none.0)
    (loop.invariant.up file is are) loop.invariant.meets)
