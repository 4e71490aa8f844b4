use Rattle.std.proofs.lemmas.Result.{on_ok_weaker}
use Rattle.pmp_audit.specs.PolicyDraft.{last_word}
use Rattle.pmp_audit.proofs.DraftSteps.{mode_appended}
use Rattle.pmp_audit.proofs.policy_draft.append_mode.Goals as goal

pub returns-clause-ok : goal.returns-clause-ok
returns-clause-ok g c =
    on_ok_weaker c.append_kind-3.result (λ stores.
    mode_appended c.args.file.now (last_word c.args.moment.has_names c.args.moment.publications) _ _ _ _ c.args.mode
    c.in_ok-append_kind.ensures.ok c.in_ok-append_kind-2.ensures.ok stores) c.append_kind-3.ensures.ok
