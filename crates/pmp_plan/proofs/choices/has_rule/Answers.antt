use Rattle.std.proofs.Common.{arith}
use Rattle.pmp_plan.proofs.Rules.{has_byte}
use Rattle.pmp_plan.proofs.choices.has_rule.Goals as goal

pub returns-clause-no : goal.returns-clause-no
returns-clause-no c _ (rule, is) =
    let (place, few, here) = has_byte c.args.security c.args.demand rule is in
    c.loop-byte.invariant.none place (omega (arith, few, c.loop-byte-test.false)) here
