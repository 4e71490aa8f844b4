use Rattle.std.proofs.Common.{fold, take}
use Rattle.clap.specs.Words.{new_app}
use Rattle.pmp_tool.specs.Arguments.{command_word}
use Rattle.pmp_tool.specs.Building.{IsCommand}
use Rattle.pmp_tool.specs.CommandLines.{with_argument}
use Rattle.pmp_tool.proofs.command_line.command.Given as goal

abbrev pub invariant-loop-argument : goal.invariant-loop-argument
invariant-loop-argument l =
    IsCommand l.command (fold with_argument (new_app (command_word l.fn.name)) (take l.argument-index l.arguments))
