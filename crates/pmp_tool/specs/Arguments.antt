-- The program's commands and their arguments.
use Rattle.std.specs.Prelude.{ℕ, List, [], ◌∷◌, Some, pos, true, codes}
use Rattle.clap.specs.Words.{Rule, Text, new_rule}
use Rattle.clap.specs.declared.builder.action.ArgAction.TheVariants.{SetTrue}
use Rattle.clap.specs.declared.builder.value_parser.ValueParser.TheVariants as parser
use Rattle.pmp_share.specs.declared.opening.TheConstants.{CHECKERS}
use Rattle.pmp_tool.specs.declared.argument.Argument.{Argument}
use Rattle.pmp_tool.specs.declared.argument.Argument.TheVariants as argument
use Rattle.pmp_tool.specs.declared.command_name.CommandName.{CommandName}
use Rattle.pmp_tool.specs.declared.command_name.CommandName.TheVariants.{Check, Why, Audit, Policy, Dump, Map, Picture}
use Rattle.pmp_tool.specs.declared.command_name.CommandName.TheVariants.{Entries, Writes, Lint, Diff, Harts, Import, Plan}
use Rattle.pmp_tool.specs.declared.jobs.TheConstants.{JOBS}

-- a word that its command requires
abbrev pub word_rule : (id : Text) → Rule
word_rule id = record (new_rule id) { value_names = 1; required = true }

-- an option with a word, `--NAME WORD`
abbrev pub option_rule : (id : Text) → Rule
option_rule id = record (new_rule id) { long = Some id; value_names = 1 }

-- an option without a word, `--NAME`
abbrev pub flag_rule : (id : Text) → Rule
flag_rule id = record (new_rule id) { long = Some id; action = Some SetTrue }

-- an option with a number from 1 to `most`
abbrev pub count_rule : (id : Text) (most : ℕ) → Rule
count_rule id most = record (option_rule id) { parser = Some (parser.Signed (pos 1) (pos most)) }

-- how clap reads an argument
unfoldable pub rule_in : Argument → Rule
rule_in argument.Script = word_rule (codes "script")
rule_in argument.Old = word_rule (codes "script")
rule_in argument.New = word_rule (codes "new")
rule_in argument.Trace = word_rule (codes "trace")
-- a policy is judged, or with `--from` one is written
rule_in argument.Policy = record (new_rule (codes "policy")) { value_names = 1 }
rule_in argument.Draft = record (flag_rule (codes "draft")) { long = Some (codes "from") }
rule_in argument.Mode = word_rule (codes "mode")
rule_in argument.Kind = word_rule (codes "kind")
rule_in argument.Start = word_rule (codes "start")
rule_in argument.Length = word_rule (codes "length")
rule_in argument.Explain = flag_rule (codes "explain")
rule_in argument.Long = flag_rule (codes "long")
rule_in argument.EachWrite = flag_rule (codes "each-write")
rule_in argument.Strict = flag_rule (codes "strict")
rule_in argument.AllBreaches = flag_rule (codes "all")
-- `--script`, which has another place than the script's path
rule_in argument.AsScript = record (flag_rule (codes "as-script")) { long = Some (codes "script") }
rule_in argument.After = option_rule (codes "after")
rule_in argument.OldAfter = option_rule (codes "old-after")
rule_in argument.NewAfter = option_rule (codes "new-after")
rule_in argument.Expect = option_rule (codes "expect")
rule_in argument.Only = option_rule (codes "only")
rule_in argument.Locks = flag_rule (codes "locks")
rule_in argument.Accept = option_rule (codes "accept")
rule_in argument.AcceptReason = option_rule (codes "accept")
-- `--format`, which has another place than the form of a log
rule_in argument.AsFormat = record (option_rule (codes "as-format")) { long = Some (codes "format") }
rule_in argument.FirstRow = option_rule (codes "first-row")
rule_in argument.Checkers = count_rule (codes "checkers") CHECKERS
rule_in argument.Jobs = count_rule (codes "jobs") JOBS
rule_in argument.Log = word_rule (codes "script")
rule_in argument.Format = word_rule (codes "format")
rule_in argument.Hart = option_rule (codes "hart")
rule_in argument.Xlen = option_rule (codes "xlen")
rule_in argument.Entries = option_rule (codes "entries")
rule_in argument.Grain = option_rule (codes "grain")
rule_in argument.AddressBits = option_rule (codes "address-bits")
rule_in argument.Smepmp = option_rule (codes "smepmp")
rule_in argument.Bursts = flag_rule (codes "bursts")
rule_in argument.Names = option_rule (codes "names")
rule_in argument.Folder = option_rule (codes "folder")
rule_in argument.Harts = word_rule (codes "script")
rule_in argument.Plan = word_rule (codes "script")
rule_in argument.Mml = flag_rule (codes "mml")
rule_in argument.Mmwp = flag_rule (codes "mmwp")
rule_in argument.Rlb = flag_rule (codes "rlb")
rule_in argument.AsArray = flag_rule (codes "c")
rule_in argument.Of = flag_rule (codes "of")
rule_in argument.From = option_rule (codes "from")
rule_in argument.Keep = flag_rule (codes "keep")
rule_in argument.WhileM = flag_rule (codes "while-m")

-- the id by which clap knows it
abbrev pub id_of : Argument → Text
id_of argument = (rule_in argument).id

-- the commands, in the order of the help
abbrev pub commands : List CommandName
commands =
    Check ∷ Why ∷ Audit ∷ Policy ∷ Dump ∷ Map ∷ Picture ∷ Entries ∷ Writes ∷ Lint ∷ Diff ∷ Harts ∷ Import ∷ Plan ∷ []

abbrev pub command_word : CommandName → Text
command_word Check = codes "check"
command_word Why = codes "why"
command_word Audit = codes "audit"
command_word Policy = codes "policy"
command_word Dump = codes "dump"
command_word Map = codes "map"
command_word Picture = codes "picture"
command_word Entries = codes "entries"
command_word Writes = codes "writes"
command_word Lint = codes "lint"
command_word Diff = codes "diff"
command_word Harts = codes "harts"
command_word Import = codes "import"
command_word Plan = codes "plan"

-- a command's arguments, in the order of the help
abbrev pub arguments_of : CommandName → List Argument
arguments_of Check =
    argument.Script ∷ argument.Explain ∷ argument.Mode ∷ argument.Kind ∷ argument.Start ∷ argument.Length
    ∷ argument.After ∷ argument.Expect ∷ argument.Names ∷ []
arguments_of Why =
    argument.Script ∷ argument.Explain ∷ argument.Mode ∷ argument.Kind ∷ argument.Start ∷ argument.Length
    ∷ argument.After ∷ argument.Names ∷ argument.AsFormat ∷ []
arguments_of Audit =
    argument.Script ∷ argument.Explain ∷ argument.Trace ∷ argument.Checkers ∷ argument.Long ∷ argument.Jobs
    ∷ argument.FirstRow ∷ argument.Names ∷ []
arguments_of Policy =
    argument.Script ∷ argument.Explain ∷ argument.Policy ∷ argument.EachWrite ∷ argument.AllBreaches ∷ argument.Strict
    ∷ argument.Draft ∷ argument.Names ∷ argument.AsFormat ∷ []
arguments_of Dump = argument.Script ∷ argument.Explain ∷ argument.After ∷ argument.AsScript ∷ []
arguments_of Map = argument.Script ∷ argument.Explain ∷ argument.After ∷ argument.Names ∷ argument.AsFormat ∷ []
arguments_of Picture = argument.Script ∷ argument.Explain ∷ argument.After ∷ argument.Names ∷ []
arguments_of Entries = argument.Script ∷ argument.Explain ∷ argument.After ∷ argument.Names ∷ argument.AsFormat ∷ []
arguments_of Writes = argument.Script ∷ argument.Explain ∷ argument.AcceptReason ∷ argument.AsFormat ∷ []
arguments_of Lint = argument.Script ∷ argument.Explain ∷ argument.Accept ∷ argument.Names ∷ argument.AsFormat ∷ []
arguments_of Diff =
    argument.Old ∷ argument.Explain ∷ argument.New ∷ argument.OldAfter ∷ argument.NewAfter ∷ argument.Only
    ∷ argument.Locks ∷ argument.Names ∷ argument.AsFormat ∷ []
arguments_of Harts = argument.Harts ∷ argument.Explain ∷ argument.Locks ∷ argument.Names ∷ argument.AsFormat ∷ []
arguments_of Import =
    argument.Format ∷ argument.Explain ∷ argument.Log ∷ argument.Hart ∷ argument.Xlen ∷ argument.Entries ∷ argument.Grain
    ∷ argument.AddressBits ∷ argument.Smepmp ∷ argument.Bursts ∷ argument.Folder ∷ []
arguments_of Plan =
    argument.Plan ∷ argument.Explain ∷ argument.Xlen ∷ argument.Entries ∷ argument.Grain ∷ argument.AddressBits
    ∷ argument.Smepmp ∷ argument.Mml ∷ argument.Mmwp ∷ argument.Rlb ∷ argument.From ∷ argument.Keep ∷ argument.WhileM
    ∷ argument.AsArray ∷ argument.Of ∷ []
