-- How the command line is built, and what parsing it gives.
use Rattle.std.specs.Prelude.{◌≡◌, List, [], false, Result, IfOk}
use Rattle.std.specs.declared.alloc.AllocError.{AllocError}
use Rattle.clap.specs.Words.{App, Text, app_of, fault_of, subcommand_of, subcommand_rows_of}
use Rattle.clap.specs.declared.builder.command.Command.{Command}
use Rattle.clap.specs.declared.builder.command.Command.TheViews.{out-Command}
use Rattle.clap.specs.declared.parser.matches.ArgMatches.{ArgMatches}
use Rattle.pmp_tool.specs.CommandLines.{pmp_app}

-- clap reads the command as this one, and none of its arguments is global
abbrev pub IsCommand : Command → App → Type 0
IsCommand command app = (app_of command ≡ app) × ((out-Command command).has_globals ≡ false)

-- the same for a command, if there was memory for it
abbrev pub IsBuilt : Result Command AllocError → App → Type 0
IsBuilt built app = IfOk built (λ command. IsCommand command app)

-- clap accepts the words, and finds these matches in them
abbrev pub IsTaken : List Text → ArgMatches → Type 0
IsTaken words matches = (fault_of pmp_app words ≡ []) × (subcommand_rows_of matches ≡ subcommand_of pmp_app words)
