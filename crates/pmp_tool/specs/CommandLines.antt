-- The command line, as the crate clap reads it.
use Rattle.std.specs.Prelude.{◌≡◌, ◌≢◌, ◌⊎◌, ℕ, List, [], Option, Ok, true, codes, fold}
use Rattle.clap.specs.Words.{App, IsAmong, Text, fault_of, kind_of, new_app, subcommand_of, with_rule, with_subcommand}
use Rattle.clap.specs.declared.error.Error.{Error}
use Rattle.clap.specs.declared.error.kind.ErrorKind.TheVariants.{DisplayHelp, DisplayVersion}
use Rattle.pmp_import.specs.declared.format.Format.{Format}
use Rattle.pmp_import.specs.declared.options.Options.{Options}
use Rattle.pmp_tool.specs.declared.argument.Argument.{Argument}
use Rattle.pmp_tool.specs.declared.command_name.CommandName.{CommandName}
use Rattle.pmp_tool.specs.Arguments.{arguments_of, command_word, commands, rule_in}
use Rattle.pmp_text.specs.MetNames.{Named}
use Rattle.pmp_tool.specs.Commands.{Import, LongAudit, Task, asked_of}

-- one more argument
unfoldable pub with_argument : App → Argument → App
with_argument app argument = with_rule app (rule_in argument)

-- a command with its arguments
unfoldable pub command_app : CommandName → App
command_app name = fold with_argument (new_app (command_word name)) (arguments_of name)

-- it has a version, its words begin with a subcommand, and without words it shows help
abbrev pub as_top : App → App
as_top app = record app {
  top = record app.top {
    no_binary_name = true;
    has_version = true;
    arg_required_else_help = true;
    subcommand_required = true;
  };
}

abbrev pub top_app : App
top_app = as_top (new_app (codes "pmp"))

unfoldable pub with_command : (program command : App) → App
with_command program command = with_subcommand program command.top

-- the program, with a subcommand for each command
unfoldable pub commands_app : App
commands_app = fold (λ program name. with_command program (command_app name)) top_app commands

-- a help topic, `help NAME`: as a command it requires a word, and takes none
abbrev pub topic_app : (name : Text) → App
topic_app name = let app = new_app name in record app {
  top = record app.top {
    arg_required_else_help = true;
  };
}

-- and with the help topics
abbrev pub pmp_app : App
pmp_app =
    let script = with_command commands_app (topic_app (codes "script")) in
    let trace = with_command script (topic_app (codes "trace")) in
    let names = with_command trace (topic_app (codes "names")) in
    with_command names (topic_app (codes "rows"))

-- clap accepts the words, and its matches ask for this, with these names for addresses
abbrev pub WordsAskFor : List Named → List Text → Task → Type 0
WordsAskFor names words task =
    (fault_of pmp_app words ≡ []) × (asked_of names (subcommand_of pmp_app words) ≡ Ok task)

-- the words ask for a long audit
pub record AsksForLongAudit (words : List Text) : Type 0 where
  pub script : Text
  pub trace : Text
  pub jobs : Option ℕ
  pub first : ℕ
  pub names : List Named
  pub task : WordsAskFor names words (LongAudit script trace jobs first)

-- the words ask for an import
pub record AsksForImport (words : List Text) : Type 0 where
  pub log : Text
  pub format : Format
  pub options : Options
  pub folder : Option Text
  pub names : List Named
  pub task : WordsAskFor names words (Import log format options folder)

-- the words ask for output that is written piece by piece
abbrev pub AsksForPieces : List Text → Type 0
AsksForPieces words = AsksForLongAudit words ⊎ AsksForImport words

-- clap may answer the words with a text: help or the version
abbrev pub MayAskForText : List Text → Type 0
MayAskForText words = IsAmong DisplayHelp (fault_of pmp_app words) ⊎ IsAmong DisplayVersion (fault_of pmp_app words)

-- clap refuses the words with this error, which is neither help nor the version
pub record IsRefusedCommandLine (words : List Text) (error : Error) : Type 0 where
  pub kind : IsAmong (kind_of error) (fault_of pmp_app words)
  pub no_help : kind_of error ≢ DisplayHelp
  pub no_version : kind_of error ≢ DisplayVersion
