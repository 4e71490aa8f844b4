use Rattle.std.proofs.Common.{fold, take}
use Rattle.pmp_tool.specs.Arguments.{commands}
use Rattle.pmp_tool.specs.Building.{IsCommand}
use Rattle.pmp_tool.specs.CommandLines.{command_app, top_app, with_command}
use Rattle.pmp_tool.proofs.command_line.commands.Given as goal

abbrev pub invariant-loop-name : goal.invariant-loop-name
invariant-loop-name l =
    IsCommand l.program (fold (λ program name. with_command program (command_app name)) top_app
    (take l.name-index commands))
