use Rattle.std.proofs.Common.{sym, ◌∙◌, subst}
use Rattle.pmp_text.specs.Lines.{lines}
use Rattle.pmp_import.specs.declared.survey.Survey.{Survey}
use Rattle.pmp_import.specs.Steps.{FindsFault, FindsOn}
use Rattle.pmp_import.proofs.LogTexts.{known, unknown}
use Rattle.pmp_import.proofs.log_text.given_by.Goals as goal

pub returns-in-Ok : goal.returns-in-Ok
returns-in-Ok c =
    let finds = subst (λ (it : Survey). FindsOn c.args.format it c.take_lines.new.self (lines c.args.log.now))
    c.new-survey.ensures c.in-Ok.ensures.ok in
    c.with.ensures ∙ sym (known c.args.format c.args.options (lines c.args.log.now) c.take_lines.new.self finds)

pub returns-in-Err : goal.returns-in-Err
returns-in-Err c =
    let stops = subst (λ (it : Survey). FindsFault c.args.format it (lines c.args.log.now) c.in-Err.fault)
    c.new-survey.ensures c.in-Err.ensures.err in
    sym (unknown c.args.format c.args.options (lines c.args.log.now) c.in-Err.fault stops)
