use Rattle.std.proofs.Common.{codes}
use Rattle.std.proofs.lemmas.Result.{IfOk-weaker}
use Rattle.pmp_tool.specs.CommandLines.{commands_app, topic_app}
use Rattle.pmp_tool.proofs.Building.{command_added}
use Rattle.pmp_tool.proofs.command_line.pmp.Goals as goal

pub returns : goal.returns
returns c =
    let script =
    command_added c.in_ok-commands.field-0 c.topic.result c.in_ok-subcommand.field-0 commands_app
    (topic_app (codes "script")) c.in_ok-commands.ensures c.topic.ensures c.in_ok-subcommand.ensures in
    let trace =
    command_added c.in_ok-subcommand.field-0 c.topic-2.result c.in_ok-subcommand-2.field-0 _
    (topic_app (codes "trace")) script c.topic-2.ensures c.in_ok-subcommand-2.ensures in
    let names =
    command_added c.in_ok-subcommand-2.field-0 c.topic-3.result c.in_ok-subcommand-3.field-0 _
    (topic_app (codes "names")) trace c.topic-3.ensures c.in_ok-subcommand-3.ensures in
    IfOk-weaker c.subcommand-4.result _ _
    (λ new added. command_added c.in_ok-subcommand-3.field-0 c.topic-4.result new _
    (topic_app (codes "rows")) names c.topic-4.ensures added) c.subcommand-4.ensures
