use Rattle.std.proofs.Common.{arith, sym}
use Rattle.pmp_audit.proofs.WrittenDrafts.{drafted, made_good}
use Rattle.pmp_audit.proofs.policy_draft.append_policy_from.Goals as goal

pub returns-clause-ok : goal.returns-clause-ok
returns-clause-ok g c =
    drafted c.args.script.now c.in_ok-script.script c.in_ok-script.ensures
    (c.law_script_size.ensures c.args.script.now c.in_ok-script.script c.in_ok-script.ensures) _ _
    (made_good _ _ (sym c.if-is_err.ensures.value) c.append_script-made.ensures.ok)
    (omega (arith, c.if-position-before-gt-MAX_TRACE.false, c.position.ensures, c.position-before.ensures))
