use Rattle.std.proofs.lemmas.List.{take_all}
use Rattle.std.proofs.lemmas.List.Sums.{fold_more}
use Rattle.clap.specs.Words.{new_app}
use Rattle.pmp_tool.specs.Arguments.{command_word}
use Rattle.pmp_tool.specs.CommandLines.{command_app, with_argument}
use Rattle.pmp_tool.specs.declared.argument.Argument.TheVariants.{Script}
use Rattle.pmp_tool.proofs.Building.{argument_added}
use Rattle.pmp_tool.proofs.command_line.command.Goals as goal

pub loop-argument-preserved : goal.loop-argument-preserved
loop-argument-preserved c =
    rw (fold_more with_argument (new_app (command_word c.args.name)) c.arguments-arguments.result.now
    c.loop-argument.argument-index Script c.loop-argument-test.true)
    (argument_added c.arg.result _ c.arg.ensures.rule c.arg.ensures.local c.loop-argument.command
    c.in_ok-command.command _ c.loop-argument.invariant c.in_ok-command.ensures)

pub returns : goal.returns
unfolding command_app
returns c =
    rw (
      take_all c.loop-argument.argument-index c.arguments-arguments.result.now c.loop-argument-test.false,
      c.arguments-arguments.ensures,
    ) at c.loop-argument.invariant
