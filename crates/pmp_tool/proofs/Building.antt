-- What clap reads of a command that is built up step by step.
use Rattle.std.proofs.Common.{◌≡◌, ◌||◌, ap, refl, ◌∙◌, Bool, true, false, List, Result, Ok, Err, IfOk, IfErr, subst}
use Rattle.std.proofs.Math.Bool.{or-false}
use Rattle.clap.specs.Words.{AddsArg, AddsSubcommand, App, FailsBy, HasKind, HasMatchesOf, Text, app_of, fault_of}
use Rattle.clap.specs.Words.{is_simple, is_simple_and_free, rule_of, with_rule, with_subcommand}
use Rattle.clap.specs.declared.error.Error.{Error}
use Rattle.clap.specs.declared.parser.matches.ArgMatches.{ArgMatches}
use Rattle.clap.proofs.OnLiterals.{clap_on_literals}
use Rattle.clap.specs.declared.builder.arg.Arg.{Arg}
use Rattle.clap.specs.declared.builder.command.Command.{Command}
use Rattle.pmp_tool.specs.declared.argument.Argument.{Argument}
use Rattle.pmp_tool.specs.Arguments.{rule_in}
use Rattle.pmp_tool.specs.Building.{IsCommand, IsTaken}
use Rattle.pmp_tool.specs.CommandLines.{command_app, commands_app, pmp_app, with_argument, with_command}

same_globals : (old added : Bool) → added ≡ false → (old || added) ≡ old
same_globals old added none = rw none (or-false old)

-- an argument more is a rule more
pub argument_added : (arg : Arg) (argument : Argument) → rule_of arg ≡ rule_in argument → arg.global ≡ false
    → (old new : Command) (app : App) → IsCommand old app → AddsArg old arg new
    → IsCommand new (with_argument app argument)
unfolding with_argument
argument_added arg argument is local old new app command added = (
  added.shape local ∙ ap (λ app. with_rule app (rule_of arg)) command.0 ∙ ap (with_rule app) is,
  added.globals ∙ same_globals _ _ local ∙ command.1,
)

pub command_added : (old sub new : Command) (program app : App) → IsCommand old program → IsCommand sub app
    → AddsSubcommand old sub new → IsCommand new (with_command program app)
unfolding with_command
command_added old sub new program app command given added = (
  added.shape given.1 ∙ ap (λ program. with_subcommand program (app_of sub).top) command.0
      ∙ ap (λ app. with_subcommand program app.top) given.0,
  added.globals ∙ same_globals _ _ given.1 ∙ command.1,
)

-- clap's exact statements hold of the program's command
is_exact : is_simple_and_free pmp_app ≡ true
unfolding clap_on_literals rule_in with_argument command_app with_command commands_app
is_exact = refl

is_read : is_simple pmp_app ≡ true
unfolding clap_on_literals rule_in with_argument command_app with_command commands_app
is_read = refl

abbrev Fails : List Text → Result ArgMatches Error → App → Type 0
Fails words result app = is_simple_and_free app ≡ true → FailsBy (fault_of app words) result

abbrev Matches : List Text → Result ArgMatches Error → App → Type 0
Matches words result app = IfOk result (HasMatchesOf app words)

module _ (command : Command) (words : List Text) (is : IsCommand command pmp_app) where
  pub taken : (result : Result ArgMatches Error) → Fails words result (app_of command)
      → Matches words result (app_of command) → IfOk result (IsTaken words)
  taken (Ok matches) fails found =
      (subst (Fails words (Ok matches)) is.0 fails is_exact, (subst (Matches words (Ok matches)) is.0 found is_read).1)
  taken (Err error) fails found = tt

  pub untaken : (result : Result ArgMatches Error) → Fails words result (app_of command)
      → IfErr result (HasKind (fault_of pmp_app words))
  untaken (Ok matches) fails = tt
  untaken (Err error) fails = subst (Fails words (Err error)) is.0 fails is_exact
