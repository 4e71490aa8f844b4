use Rattle.std.proofs.lemmas.List.{take_all}
use Rattle.std.proofs.lemmas.List.Sums.{fold_more}
use Rattle.pmp_tool.specs.Arguments.{commands}
use Rattle.pmp_tool.specs.CommandLines.{command_app, commands_app, top_app, with_command}
use Rattle.pmp_tool.specs.declared.command_name.CommandName.TheVariants.{Check}
use Rattle.pmp_tool.proofs.Building.{command_added}
use Rattle.pmp_tool.proofs.command_line.commands.Goals as goal

pub loop-name-preserved : goal.loop-name-preserved
loop-name-preserved c =
    rw (fold_more (λ program name. with_command program (command_app name)) top_app commands
    c.loop-name.name-index Check c.loop-name-test.true)
    (command_added c.loop-name.program c.in_ok-command.field-0 c.in_ok-program-2.program _ _ c.loop-name.invariant
    c.in_ok-command.ensures c.in_ok-program-2.ensures)

pub returns : goal.returns
unfolding commands_app
returns c = rw (take_all c.loop-name.name-index commands c.loop-name-test.false) at c.loop-name.invariant
