use Rattle.pmp_audit.proofs.PolicySweep.{still_none}
use Rattle.pmp_audit.proofs.policy_check.sweep.Judged.broken_in.Goals as goal

pub returns-then-not-is_moved : goal.returns-then-not-is_moved
returns-then-not-is_moved c = λ known.
    let (before, alike, none) = known c.if-self-state.true in
    still_none before c.args.state.now.file c.args.state.now.moved c.args.self.now.row alike
    (c.is_moved.ensures c.if-not-is_moved.true) none
