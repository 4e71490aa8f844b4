use Rattle.std.proofs.Common.{◌≡◌, ◌∙◌, Ok, ap, map}
use Rattle.pmp_text.specs.Labels.{label_text, policy_labels}
use Rattle.pmp_text.specs.Policies.{policy_fields, policy_meaning}
use Rattle.pmp_audit.proofs.PolicyVerdicts.{policy_says}
use Rattle.pmp_audit.proofs.policy_check.check_rows.Goals as goal

pub returns-clause-ok : goal.returns-clause-ok
returns-clause-ok g c = λ text means.
    let rows = c.deref.result.now in
    let policy_means : policy_meaning c.moments_of.result c.args.policy.text.now ≡ Ok (map policy_fields rows) =
    rw c.deref.ensures.value c.in_ok-policy.ensures.given in
    let labels : map label_text c.deref-2.result.now ≡ policy_labels c.args.policy.text.now =
    ap (map label_text) c.deref-2.ensures.value ∙ c.in_ok-policy.ensures.labels in
    policy_says c.args.policy.asked.breaches c.args.policy.asked.pace text c.args.policy.text.now c.args.script.now rows
    c.in_ok-judged.judged.items c.in_ok-add_all.field-0 c.moments_of.result means c.moments_of.ensures policy_means
    c.in_ok-judged.ensures.rows c.in_ok-judged.ensures.judged g.R.RowSink.Adds _ _
    (rw (c.deref-3.ensures.value, labels) at c.in_ok-add_all.ensures.ok)
