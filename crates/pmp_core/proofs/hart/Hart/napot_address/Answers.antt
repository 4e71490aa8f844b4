use Rattle.std.proofs.Common.{◌-◌, arith}
use Rattle.std.proofs.Math.Pow.{pow_pos}
use Rattle.pmp_core.proofs.Grains.{napot_below, napot_within}
use Rattle.pmp_core.proofs.hart.Hart.napot_address.Goals as goal

pub overflow_add-result : goal.overflow_add-result
overflow_add-result c =
    let grain = c.self.inside.profile.grain in
    let fine = c.self.invariant.fine in
    rw c.saturating_sub-ones.ensures (omega (
      arith,
      napot_within grain 64 c.args.address (omega (arith, fine)) (omega arith),
      pow_pos (grain - 1),
    ))

pub returns-clause-within : goal.returns-clause-within
returns-clause-within c = λ small.
    let grain = c.self.inside.profile.grain in
    rw c.saturating_sub-ones.ensures (omega (
      arith,
      napot_below grain c.args.address c.self.invariant.fine small,
      pow_pos (grain - 1),
    ))
