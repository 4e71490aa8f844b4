use Rattle.std.proofs.lemmas.Result.{on_ok_weaker}
use Rattle.pmp_audit.specs.PolicyDraft.{last_word}
use Rattle.pmp_audit.proofs.DraftSteps.{draft_appended}
use Rattle.pmp_audit.proofs.policy_draft.append_draft.Goals as goal

pub returns-clause-ok : goal.returns-clause-ok
returns-clause-ok g c =
    on_ok_weaker c.append_mode-2.result (λ others.
    draft_appended c.args.file.now (last_word c.args.moment.has_names c.args.moment.publications) _ _ _ _
    c.in_ok-append.ensures.ok c.in_ok-append_mode.ensures.ok others) c.append_mode-2.ensures.ok
