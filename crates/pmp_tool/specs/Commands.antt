-- What the matches of the command line ask for.
use Rattle.std.specs.Borrow.{Bor}
use Rattle.std.specs.Prelude.{Bool, true, ℕ, ◌-◌, ◌^◌, List, [], ◌&&◌, ◌||◌, Option, Some, None, Result, Ok, Err}
use Rattle.std.specs.Prelude.{ok_or, option_map, unwrap_or}
use Rattle.std.specs.Prelude.{if◌then◌else◌, codes, find, is_some}
use Rattle.std.specs.Str.{bytes_eq}
use Rattle.clap.specs.Words.{Row, Text}
use Rattle.pmp_core.specs.declared.access.Access.{Access}
use Rattle.pmp_core.specs.declared.access.AccessFault.{AccessFault}
use Rattle.pmp_core.specs.declared.access.AccessFault.TheVariants as access
use Rattle.pmp_core.specs.declared.access.Kind.{Kind}
use Rattle.pmp_core.specs.declared.access.Mode.{Mode}
use Rattle.pmp_core.specs.Access.{access_fault}
use Rattle.pmp_core.specs.declared.hart.Profile.{Profile}
use Rattle.pmp_import.specs.declared.format.Format.{Format}
use Rattle.pmp_import.specs.declared.options.Options.{Options}
use Rattle.pmp_import.specs.Formats.{format_named}
use Rattle.pmp_lint.specs.Findings.{are_lints}
use Rattle.pmp_text.specs.MetNames.{Named}
use Rattle.pmp_names.specs.NamedAddresses.{address_said}
use Rattle.pmp_audit.specs.AcceptedReasons.{are_reasons}
use Rattle.pmp_text.specs.AccessWords.{kind_named, mode_named}
use Rattle.pmp_text.specs.declared.moments.When.{When}
use Rattle.pmp_text.specs.Moments.{when_said}
use Rattle.pmp_text.specs.Numbers.{word_number}
use Rattle.pmp_audit.specs.declared.policy_check.AskedVerdicts.{AskedVerdicts}
use Rattle.pmp_audit.specs.declared.policy_check.Breaches.TheVariants.{All, First}
use Rattle.pmp_audit.specs.declared.policy_check.steps.Pace.TheVariants.{Events, Publications}
use Rattle.pmp_audit.specs.declared.script_diff.AskedChanges.{AskedChanges}
use Rattle.pmp_audit.specs.declared.view.View.{View}
use Rattle.pmp_audit.specs.declared.view.View.TheVariants.{Registers, Picture}
use Rattle.pmp_audit.specs.declared.view.Listing.{Listing}
use Rattle.pmp_audit.specs.declared.view.Listing.TheVariants.{Entries, Runs}
use Rattle.pmp_audit.specs.declared.view.View.TheVariants.{Script as AsScript}
use Rattle.pmp_plan.specs.declared.answer.Form.TheVariants.{Array, Script}
use Rattle.pmp_plan.specs.declared.answer.Wanted.{Wanted}
use Rattle.pmp_share.specs.declared.opening.TheConstants.{CHECKERS}
use Rattle.pmp_tool.specs.declared.argument.Argument.{Argument}
use Rattle.pmp_tool.specs.declared.argument.Argument.TheVariants as argument
use Rattle.pmp_tool.specs.declared.command_name.CommandName.{CommandName}
use Rattle.pmp_tool.specs.declared.command_name.CommandName.TheVariants as name
use Rattle.pmp_tool.specs.declared.request.Question.{Question}
use Rattle.pmp_tool.specs.declared.request.Question.TheVariants as question
use Rattle.pmp_tool.specs.declared.request.Printed.{Printed}
use Rattle.pmp_tool.specs.declared.request.Printed.TheVariants as printed
use Rattle.pmp_tool.specs.declared.request.Request.{Request}
use Rattle.pmp_tool.specs.declared.request.Request.TheVariants as request
use Rattle.pmp_tool.specs.declared.expected.Expected.{Expected}
use Rattle.pmp_tool.specs.declared.expected.Expected.TheVariants.{Allow}
use Rattle.pmp_tool.specs.declared.jobs.TheConstants.{JOBS}
use Rattle.pmp_text.specs.declared.refusal.Refusal.TheVariants.{BadFormat, BadLength, BadWord, PastEnd}
use Rattle.pmp_tool.specs.declared.fault_line.FaultLine.{FaultLine}
use Rattle.pmp_tool.specs.declared.word.Xlen.{Xlen}
use Rattle.pmp_tool.specs.Arguments.{command_word, commands}
use Rattle.pmp_tool.specs.HartWords.{aim_in, hart_in, says_aim, says_hart}
use Rattle.pmp_tool.specs.Words.{and_then, asked_in, bad_word, count_in, expected_named}
use Rattle.pmp_tool.specs.Words.{is_bare_word, is_set, is_stdin, is_used}
use Rattle.pmp_tool.specs.Words.{needed_in, of_no_word, of_word, only_named, smepmp_named, word_in, xlen_named}

-- an access, in plain values
pub record AccessTask : Type 0 where
  pub mode : Mode
  pub kind : Kind
  pub start : ℕ
  pub length : ℕ

-- a question about a script, in plain values
pub data Query : Type 0 where
  Check : AccessTask → (after : Option When) → Expected → (is_bare : Bool) → Query
  Why : AccessTask → (after : Option When) → (is_bare : Bool) → Query
  Audit : (trace : Text) (checkers : Option ℕ) → Query
  Policy : (policy : Text) → AskedVerdicts → (is_strict : Bool) → Query
  ListOf : Listing → (after : Option When) → Query
  Writes : (accepted : Text) → Query
  Lint : (accepted : Text) → Query
  Diff : (new : Text) (old_after new_after : Option When) → AskedChanges → Query

-- a request, in plain values
pub data Task : Type 0 where
  Ask : (script : Text) → Query → Task
  Harts : (folder : Text) (has_locks : Bool) → Task
  Show : (script : Text) → View → (after : Option When) → Task
  LongAudit : (script trace : Text) (jobs : Option ℕ) (first : ℕ) → Task
  Import : (log : Text) → Format → Options → (folder : Option Text) → Task
  Plan : (plan : Text) (from : Option Text) → (hart : Profile) → Wanted → Task
  PlanOf : (script : Text) → Task
  PolicyFrom : (script : Text) → Task

abbrev pub access_task : Access → AccessTask
access_task access = record { mode = access.mode; kind = access.kind; start = access.start; length = access.length }

abbrev pub path_text : {T : Type 0} → Option (Bor T) → Option T
path_text path = option_map (λ path. path.now) path

abbrev pub query_of : Question → Query
query_of (question.Check check) = Check (access_task check.access) check.after check.expected check.is_bare
query_of (question.Why why) = Why (access_task why.access) why.after why.is_bare
query_of (question.Audit audit) = Audit audit.trace.now audit.checkers
query_of (question.Policy policy) = Policy policy.path.now policy.asked policy.is_strict
query_of (question.List listing after) = ListOf listing after
query_of (question.Writes accepted) = Writes accepted.now
query_of (question.Lint accepted) = Lint accepted.now
query_of (question.Diff diff) = Diff diff.new.now diff.old_after diff.new_after diff.changes

abbrev pub printed_task : Printed → Task
printed_task (printed.Ask script query) = Ask script.now (query_of query)
printed_task (printed.Harts folder has_locks) = Harts folder.now has_locks
printed_task (printed.Show show) = Show show.script.now show.view show.after
printed_task (printed.Plan plan) = Plan plan.plan.now (path_text plan.from) plan.hart plan.wanted
printed_task (printed.PlanOf script) = PlanOf script.now
printed_task (printed.PolicyFrom script) = PolicyFrom script.now

abbrev pub task_of : Request → Task
task_of (request.Print printed) = printed_task printed
task_of (request.LongAudit audit) = LongAudit audit.script.now audit.trace.now audit.jobs audit.first
task_of (request.Import log) = Import log.log.now log.format log.options (path_text log.folder)

-- the path in a place that its command requires
abbrev pub path_in : Argument → List Row → Result Text FaultLine
path_in argument rows = needed_in Some argument rows

-- the second of a command's inputs, after its script; one input of two can be standard input
abbrev pub second_in : Argument → List Row → Result Text FaultLine
second_in place rows =
    and_then (path_in argument.Script rows) (λ script. and_then (path_in place rows) (λ second.
    if bytes_eq script (codes "stdin") && bytes_eq second (codes "stdin") then Err (of_no_word BadWord)
    else Ok second))

-- an access is refused for its length, or where it begins
abbrev pub access_line : AccessFault → FaultLine
access_line access.BadLength = of_word argument.Length BadLength
access_line access.PastEnd = of_word argument.Start PastEnd

abbrev pub access_unless : Option AccessFault → AccessTask → Result AccessTask FaultLine
access_unless None access = Ok access
access_unless (Some fault) access = Err (access_line fault)

-- where an access begins: at a number, or at a name that an address has
abbrev pub start_in : List Named → List Row → Result ℕ FaultLine
start_in names rows = and_then (path_in argument.Start rows) (λ word.
    ok_or (address_said names word) (bad_word argument.Start))

-- an access has lawful numbers; its words are read before it is made
abbrev pub access_in : List Named → List Row → Result AccessTask FaultLine
access_in names rows =
    and_then (needed_in mode_named argument.Mode rows) (λ mode.
    and_then (needed_in kind_named argument.Kind rows) (λ kind.
    and_then (start_in names rows) (λ start.
    and_then (needed_in word_number argument.Length rows) (λ length.
    access_unless (access_fault start length) (record { mode = mode; kind = kind; start = start; length = length })))))

-- the options are read before the access is made
abbrev pub check_in : List Named → List Row → Result Query FaultLine
check_in names rows =
    and_then (asked_in expected_named argument.Expect rows) (λ expected.
    and_then (asked_in when_said argument.After rows) (λ after.
    and_then (access_in names rows) (λ access.
    Ok (Check access after (unwrap_or expected Allow) (is_bare_word argument.Start rows)))))

-- the option is read before the access
abbrev pub why_in : List Named → List Row → Result Query FaultLine
why_in names rows =
    and_then (asked_in when_said argument.After rows) (λ after.
    and_then (access_in names rows) (λ access. Ok (Why access after (is_bare_word argument.Start rows))))

-- neither of two options is used
abbrev pub neither : (first second : Argument) → List Row → Result (Unit {0}) FaultLine
neither first second rows =
    if is_used first rows || is_used second rows then Err (of_no_word BadWord) else Ok tt

-- an audit of a trace that is read as a whole
abbrev pub whole_audit_in : (script trace : Text) → List Row → Result Task FaultLine
whole_audit_in script trace rows =
    and_then (neither argument.Jobs argument.FirstRow rows) (λ _.
    and_then (count_in CHECKERS argument.Checkers rows) (λ checkers. Ok (Ask script (Audit trace checkers))))

-- an audit of a trace that is read piece by piece, without names: row 1 is its first where the words don't say it
abbrev pub long_audit_in : (script trace : Text) → List Row → Result Task FaultLine
long_audit_in script trace rows =
    and_then (neither argument.Checkers argument.Names rows) (λ _.
    and_then (count_in JOBS argument.Jobs rows) (λ jobs.
    and_then (count_in (2 ^ 64 - 1) argument.FirstRow rows) (λ first.
    Ok (LongAudit script trace jobs (unwrap_or first 1)))))

-- the trace's path is read before the options
abbrev pub audit_in : (script : Text) → List Row → Result Task FaultLine
audit_in script rows =
    and_then (second_in argument.Trace rows) (λ trace.
    if is_set argument.Long rows then long_audit_in script trace rows else whole_audit_in script trace rows)

-- a policy asks after each publication, or after each event too, and for the first breach of a row, or for all
abbrev pub verdicts_in : List Row → AskedVerdicts
verdicts_in rows = record {
  pace = if is_set argument.EachWrite rows then Events else Publications;
  breaches = if is_set argument.AllBreaches rows then All else First;
}

abbrev pub policy_in : List Row → Result Query FaultLine
policy_in rows =
    and_then (second_in argument.Policy rows) (λ policy.
    Ok (Policy policy (verdicts_in rows) (is_set argument.Strict rows)))

-- a policy is written, and none is judged
abbrev pub policy_from_in : (script : Text) → List Row → Result Task FaultLine
policy_from_in script rows =
    if is_used argument.Policy rows || (is_set argument.EachWrite rows || (is_set argument.AllBreaches rows
    || (is_set argument.Strict rows || (is_used argument.Names rows || is_used argument.AsFormat rows))))
    then Err (of_no_word BadWord) else Ok (PolicyFrom script)

-- all publications are done where the option isn't used
abbrev pub show_in : (script : Text) → View → List Row → Result Task FaultLine
show_in script view rows = and_then (asked_in when_said argument.After rows) (λ after. Ok (Show script view after))

abbrev pub list_in : Listing → List Row → Result Query FaultLine
list_in listing rows = and_then (asked_in when_said argument.After rows) (λ after. Ok (ListOf listing after))

-- the new script's place is read before the options
abbrev pub diff_in : List Row → Result Query FaultLine
diff_in rows =
    and_then (second_in argument.New rows) (λ new.
    and_then (asked_in when_said argument.OldAfter rows) (λ old_after.
    and_then (asked_in when_said argument.NewAfter rows) (λ new_after.
    and_then (asked_in only_named argument.Only rows) (λ only.
    Ok (Diff new old_after new_after (record { only = only; has_locks = is_set argument.Locks rows }))))))

-- the form of a log
abbrev pub format_in : List Row → Result Format FaultLine
format_in rows = and_then (path_in argument.Format rows) (λ word.
    ok_or (format_named word) (of_word argument.Format BadFormat))

-- what is asked for of a hart whose XLEN and numbers are said
abbrev pub options_with : (xlen : Option Xlen) (hart entries : Option ℕ) → List Row → Result Options FaultLine
options_with xlen hart entries rows =
    and_then (asked_in word_number argument.Grain rows) (λ grain.
    and_then (asked_in word_number argument.AddressBits rows) (λ bits.
    and_then (asked_in smepmp_named argument.Smepmp rows) (λ smepmp. Ok (record {
      hart = hart;
      is_rv32 = option_map (λ said. said.is_rv32) xlen;
      entries = entries;
      grain = grain;
      bits = bits;
      has_smepmp = unwrap_or (option_map (λ said. said.is_there) smepmp) true;
      bursts = is_set argument.Bursts rows;
    }))))

abbrev pub options_in : List Row → Result Options FaultLine
options_in rows =
    and_then (asked_in word_number argument.Hart rows) (λ hart.
    and_then (asked_in xlen_named argument.Xlen rows) (λ xlen.
    and_then (asked_in word_number argument.Entries rows) (λ entries. options_with xlen hart entries rows)))

-- the folder for the scripts of all harts: none of them is asked for then, and the log is read several times
abbrev pub folder_in : (log : Text) → Options → List Row → Result (Option Text) FaultLine
folder_in log options rows = elim (word_in argument.Folder rows) [
  | None ↦ Ok None
  | Some path ↦ if is_some options.hart || bytes_eq log (codes "stdin") then Err (bad_word argument.Folder)
      else Ok (Some path)
]

-- the form is read first, and the folder last
abbrev pub import_in : (log : Text) → List Row → Result Task FaultLine
import_in log rows =
    and_then (format_in rows) (λ format.
    and_then (options_in rows) (λ options.
    and_then (folder_in log options rows) (λ folder. Ok (Import log format options folder))))

-- a script's registers have a hart and an mseccfg of their own
abbrev pub plan_of_in : (script : Text) → List Row → Result Task FaultLine
plan_of_in script rows =
    if says_hart rows || (says_aim rows || is_set argument.AsArray rows) then Err (of_no_word BadWord)
    else Ok (PlanOf script)

-- the script that a plan's writes begin behind, which has a hart of its own
abbrev pub from_in : List Row → Result (Option Text) FaultLine
from_in rows =
    if is_used argument.From rows then (
    if says_hart rows then Err (of_no_word BadWord)
    else and_then (second_in argument.From rows) (λ path. Ok (Some path))
    ) else Ok None

abbrev pub wanted_in : List Row → Wanted
wanted_in rows = record { aim = aim_in rows; form = if is_set argument.AsArray rows then Array else Script }

abbrev pub plan_in : (plan : Text) → List Row → Result Task FaultLine
plan_in plan rows = if is_set argument.Of rows then plan_of_in plan rows else and_then (from_in rows) (λ from.
    and_then (hart_in rows) (λ hart. Ok (Plan plan from hart (wanted_in rows))))

-- the accepted names, all of which have to be known; none where the option isn't used
abbrev pub accepted_in : (are_known : Text → Bool) → Argument → List Row → Result Text FaultLine
accepted_in are_known argument rows = elim (word_in argument rows) [
  | None ↦ Ok []
  | Some accepted ↦ if are_known accepted then Ok accepted else Err (bad_word argument)
]

abbrev pub writes_in : List Row → Result Query FaultLine
writes_in rows = and_then (accepted_in are_reasons argument.AcceptReason rows) (λ accepted. Ok (Writes accepted))

abbrev pub lint_in : List Row → Result Query FaultLine
lint_in rows = and_then (accepted_in are_lints argument.Accept rows) (λ accepted. Ok (Lint accepted))

abbrev pub asking : (script : Text) → Result Query FaultLine → Result Task FaultLine
asking script query = and_then query (λ query. Ok (Ask script query))

-- what a command's matches ask for, where its first input is at this path, and addresses have names
abbrev pub task_in : List Named → (path : Text) → CommandName → List Row → Result Task FaultLine
task_in names path name.Check rows = asking path (check_in names rows)
task_in names path name.Why rows = asking path (why_in names rows)
task_in names path name.Audit rows = audit_in path rows
task_in names path name.Policy rows =
    if is_set argument.Draft rows then policy_from_in path rows else asking path (policy_in rows)
task_in names path name.Dump rows = show_in path (if is_set argument.AsScript rows then AsScript else Registers) rows
task_in names path name.Map rows = asking path (list_in Runs rows)
task_in names path name.Picture rows = show_in path Picture rows
task_in names path name.Entries rows = asking path (list_in Entries rows)
task_in names path name.Writes rows = asking path (writes_in rows)
task_in names path name.Lint rows = asking path (lint_in rows)
task_in names path name.Diff rows = asking path (diff_in rows)
task_in names path name.Harts rows = Ok (Harts path (is_set argument.Locks rows))
task_in names path name.Import rows = import_in path rows
task_in names path name.Plan rows = plan_in path rows

abbrev pub command_named : Text → Option CommandName
command_named word = find (λ name. bytes_eq (command_word name) word) commands

-- the path of the first input is read before the rest of the words
abbrev pub asked_below : List Named → Text × List Row → Result Task FaultLine
asked_below names (word, rows) =
    and_then (ok_or (command_named word) (of_no_word BadWord)) (λ name.
    and_then (path_in argument.Script rows) (λ path. task_in names path name rows))

-- what the subcommand that clap found asks for
unfoldable pub asked_of : List Named → Option (Text × List Row) → Result Task FaultLine
asked_of names found = and_then (ok_or found (of_no_word BadWord)) (asked_below names)

-- the script or the second input is standard input
abbrev pub reads_stdin : List Row → Bool
reads_stdin rows = is_stdin argument.Script rows
    || (is_stdin argument.New rows || (is_stdin argument.Trace rows || is_stdin argument.Policy rows))

abbrev pub names_path_below : List Row → Result (Option Text) FaultLine
names_path_below rows =
    if is_stdin argument.Names rows && reads_stdin rows then Err (of_no_word BadWord)
    else Ok (word_in argument.Names rows)

-- the path of the names that it asks for; only one input can be standard input
abbrev pub names_path_in : Option (Text × List Row) → Result (Option Text) FaultLine
names_path_in None = Ok None
names_path_in (Some (word, rows)) = names_path_below rows
