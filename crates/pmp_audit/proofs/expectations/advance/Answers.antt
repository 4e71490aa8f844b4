use Rattle.std.proofs.Common.{◌∙◌, sym}
use Rattle.pmp_core.specs.Histories.{joined}
use Rattle.pmp_audit.proofs.FilesBetween.{at_most_all, run_further}
use Rattle.pmp_audit.proofs.expectations.advance.Goals as goal

pub returns-else-end-start : goal.returns-else-end-start
returns-else-end-start c =
    let script = c.args.script.now in
    let all = joined script.batches in
    let run = c.run_events-else-end-start in
    run_further script.start all c.events-all.result.now c.args.file.now run.new.self c.min-start.result
    c.min-end.result c.events-all.ensures (c.requires ∙ sym (at_most_all script.start all c.events-all.result.now
    c.min-start.result c.args.done c.events-all.ensures c.min-start.ensures)) c.if-end-start.false run.ensures.steps
    ∙ at_most_all script.start all c.events-all.result.now c.min-end.result c.args.events c.events-all.ensures
    c.min-end.ensures
