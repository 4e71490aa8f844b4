-- The form in which a command's rows are written.
use Rattle.std.specs.Prelude.{ℕ, List, [], Bool, true, false, not, ◌&&◌, ◌||◌, Option, Some, None, Result, Ok, Err, codes}
use Rattle.std.specs.Prelude.{if◌then◌else◌, is_some, option_and_then, unwrap_or}
use Rattle.std.specs.Str.{bytes_eq}
use Rattle.clap.specs.Words.{Row, Text}
use Rattle.pmp_forms.specs.Cases.{SuiteSaid}
use Rattle.pmp_forms.specs.Json.{json_text}
use Rattle.pmp_forms.specs.Junit.{junit_text}
use Rattle.pmp_forms.specs.Markdown.{markdown_text}
use Rattle.pmp_forms.specs.Sarif.{sarif_text}
use Rattle.pmp_forms.specs.declared.cases.Check.{Check}
use Rattle.pmp_forms.specs.declared.cases.Check.TheVariants as check
use Rattle.pmp_forms.specs.declared.table.Table.{Table}
use Rattle.pmp_text.specs.Cells.{RowValue, csv_text}
use Rattle.pmp_text.specs.declared.lines.row_kind.RowKind.{RowKind}
use Rattle.pmp_text.specs.declared.lines.row_kind.RowKind.TheVariants as kind
use Rattle.pmp_tool.specs.declared.argument.Argument.TheVariants as argument
use Rattle.pmp_tool.specs.declared.command_name.CommandName.{CommandName}
use Rattle.pmp_tool.specs.declared.command_name.CommandName.TheVariants as name
use Rattle.pmp_tool.specs.declared.fault_line.FaultLine.{FaultLine}
use Rattle.pmp_tool.specs.declared.row_format.AskedFormat.{AskedFormat}
use Rattle.pmp_tool.specs.declared.row_format.RowFormat.{RowFormat}
use Rattle.pmp_tool.specs.declared.row_format.RowFormat.TheVariants.{Csv, Json, Junit, Markdown, Sarif}
use Rattle.pmp_tool.specs.Commands.{command_named}
use Rattle.pmp_tool.specs.Words.{and_then, asked_in, bad_word, is_set, is_used, word_in}

-- the form that a word names
abbrev pub row_format_named : Text → Option RowFormat
row_format_named word =
    if bytes_eq word (codes "csv") then Some Csv
    else (if bytes_eq word (codes "json") then Some Json
    else (if bytes_eq word (codes "markdown") then Some Markdown
    else (if bytes_eq word (codes "junit") then Some Junit
    else (if bytes_eq word (codes "sarif") then Some Sarif else None))))

-- the kind of a command's rows, or of most of them
abbrev pub kind_of : CommandName → Option RowKind
kind_of name.Why = Some kind.Reason
kind_of name.Policy = Some kind.Verdict
kind_of name.Map = Some kind.Run
kind_of name.Entries = Some kind.Entry
kind_of name.Writes = Some kind.Effect
kind_of name.Lint = Some kind.Finding
kind_of name.Diff = Some kind.Rights
kind_of name.Harts = Some kind.Rights
kind_of _ = None

-- names of addresses stand in such rows, if the words ask for names
abbrev pub takes_names : RowKind → Bool
takes_names kind.Reason = false
takes_names kind.Effect = false
takes_names _ = true

-- what a pipeline takes rows for: it takes verdicts and findings alone
abbrev pub check_of : RowKind → Option Check
check_of kind.Verdict = Some check.Policy
check_of kind.Finding = Some check.Lint
check_of _ = None

-- such a form is for a pipeline
abbrev pub is_of_pipeline : RowFormat → Bool
is_of_pipeline Junit = true
is_of_pipeline Sarif = true
is_of_pipeline _ = false

-- the form that the rows of a command are to have, in plain values
pub record FormatTask : Type 0 where
  pub format : RowFormat
  pub kind : RowKind
  pub has_names : Bool
  pub has_events : Bool
  pub script : Text
  pub policy : Text

abbrev pub format_task : AskedFormat → FormatTask
format_task asked = record {
  format = asked.format;
  kind = asked.kind;
  has_names = asked.has_names;
  has_events = asked.has_events;
  script = asked.script.now;
  policy = asked.policy.now;
}

abbrev pub format_for : RowFormat → RowKind → (script : Text) → List Row → Result (Option FormatTask) FaultLine
format_for format kind script rows =
    if is_of_pipeline format && not (is_some (check_of kind)) then Err (bad_word argument.AsFormat)
    else Ok (Some (record {
      format = format;
      kind = kind;
      has_names = takes_names kind && is_used argument.Names rows;
      has_events = is_set argument.EachWrite rows;
      script = script;
      policy = unwrap_or (word_in argument.Policy rows) [];
    }))

-- a command whose rows have no such form, or that has no script, gets none
abbrev pub format_of : RowFormat → Option RowKind → (script : Option Text) → List Row
    → Result (Option FormatTask) FaultLine
format_of format None script rows = Ok None
format_of format (Some kind) None rows = Ok None
format_of format (Some kind) (Some script) rows = format_for format kind script rows

abbrev pub format_if : (word : Text) → Option RowFormat → List Row → Result (Option FormatTask) FaultLine
format_if word None rows = Ok None
format_if word (Some format) rows =
    format_of format (option_and_then kind_of (command_named word)) (word_in argument.Script rows) rows

abbrev pub asked_format_in : Option (Text × List Row) → Result (Option FormatTask) FaultLine
asked_format_in None = Ok None
asked_format_in (Some (word, rows)) =
    and_then (asked_in row_format_named argument.AsFormat rows) (λ format. format_if word format rows)

-- the columns of the rows
abbrev pub table_for : AskedFormat → (has_hart : Bool) → Table
table_for asked has_hart = record { kind = asked.kind; has_hart = has_hart; has_names = asked.has_names }

-- what a pipeline reads of rows
abbrev pub suite_for : AskedFormat → Check → (has_hart : Bool) → SuiteSaid
suite_for asked check has_hart = record {
  check = check;
  table = table_for asked has_hart;
  script = asked.script.now;
  policy = asked.policy.now;
  has_events = asked.has_events;
}

-- rows in a form
abbrev pub formed_as : AskedFormat → (has_hart : Bool) → RowFormat → Option Check → List RowValue → List ℕ
formed_as asked has_hart Csv check rows = csv_text rows
formed_as asked has_hart Json check rows = json_text (table_for asked has_hart) rows
formed_as asked has_hart Markdown check rows = markdown_text (table_for asked has_hart) rows
formed_as asked has_hart Junit None rows = csv_text rows
formed_as asked has_hart Junit (Some check) rows = junit_text (suite_for asked check has_hart) rows
formed_as asked has_hart Sarif None rows = csv_text rows
formed_as asked has_hart Sarif (Some check) rows = sarif_text (suite_for asked check has_hart) rows

-- without a form, rows are CSV
abbrev pub formed : Option AskedFormat → (has_hart : Bool) → List RowValue → List ℕ
formed None has_hart rows = csv_text rows
formed (Some asked) has_hart rows = formed_as asked has_hart asked.format (check_of asked.kind) rows
