-- The rows of policies and findings as cases of a test.
use Rattle.std.specs.Prelude.{ℕ, List, [], ◌∷◌, ◌++◌, map, Bool, true, false, codes, decimal, nat_lt}
use Rattle.std.specs.Prelude.{Option, Some, None, if◌then◌else◌}
use Rattle.std.specs.List.{flat_map}
use Rattle.pmp_lint.specs.Lints.{lint_named, remedy_text}
use Rattle.pmp_lint.specs.declared.lint.Lint.{Lint}
use Rattle.pmp_text.specs.Cells.{CellValue, Address, OfVerdict, RowValue}
use Rattle.pmp_text.specs.Columns.{ColumnValue, cell_under}
use Rattle.pmp_text.specs.declared.lines.verdict.Verdict.{Verdict}
use Rattle.pmp_text.specs.declared.lines.verdict.Verdict.TheVariants.{Broken, Holds, Unmet}
use Rattle.pmp_forms.specs.Tables.{number_under, text_under, whole}
use Rattle.pmp_forms.specs.declared.cases.Case.{Case}
use Rattle.pmp_forms.specs.declared.cases.Check.{Check}
use Rattle.pmp_forms.specs.declared.cases.Check.TheVariants as check
use Rattle.pmp_forms.specs.declared.cases.Outcome.{Outcome}
use Rattle.pmp_forms.specs.declared.cases.Outcome.TheVariants.{Failed, Passed, Skipped}
use Rattle.pmp_forms.specs.declared.cases.Suite.{Suite}
use Rattle.pmp_forms.specs.declared.table.Table.{Table}

-- what rows are of: `script` is the path of the script, or of the folder of scripts
pub record SuiteSaid : Type 0 where
  pub check : Check
  pub table : Table
  pub script : List ℕ
  pub policy : List ℕ
  pub has_events : Bool

abbrev pub suite_said : Suite → SuiteSaid
suite_said suite = record {
  check = suite.check;
  table = suite.table;
  script = suite.script.now;
  policy = suite.policy.now;
  has_events = suite.has_events;
}

-- a row as a case of a test: what is found, or none for a policy's row; the number of that row, or the script's line;
-- the script; its title; and if it failed, why
pub record CaseSaid : Type 0 where
  pub outcome : Outcome
  pub finding : Option Lint
  pub number : Option ℕ
  pub path : List ℕ
  pub title : List ℕ
  pub message : List ℕ

abbrev pub case_said : Case → CaseSaid
case_said case = record {
  outcome = case.outcome;
  finding = case.finding;
  number = case.number;
  path = case.path.items;
  title = case.title.items;
  message = case.message.items;
}

abbrev pub joined : (parts : List (List ℕ)) → List ℕ
joined parts = flat_map (λ part. part) parts

-- a text between others, or nothing if it is empty
abbrev pub between : (before text behind : List ℕ) → List ℕ
between before [] behind = []
between before (byte ∷ text) behind = joined (before ∷ (byte ∷ text) ∷ behind ∷ [])

-- a policy's row that isn't waived fails if it is broken, or if its moments don't come
abbrev pub outcome_of : Verdict → Outcome
outcome_of Holds = Passed
outcome_of (Broken breach) = Failed
outcome_of (Unmet true) = Skipped
outcome_of (Unmet false) = Failed

abbrev pub outcome_in : Option CellValue → Outcome
outcome_in (Some (OfVerdict verdict)) = outcome_of verdict
outcome_in _ = Passed

abbrev pub owner_text : Option ℕ → List ℕ
owner_text None = codes "no entry"
owner_text (Some entry) = codes "entry " ++ decimal entry

abbrev pub is_address : Option CellValue → Bool
is_address (Some (Address address)) = true
is_address _ = false

abbrev pub remedy_of : Option Lint → List ℕ
remedy_of None = []
remedy_of (Some lint) = remedy_text lint

-- line 0 is none
abbrev pub above_zero : Option ℕ → Option ℕ
above_zero None = None
above_zero (Some line) = if nat_lt 0 line then Some line else None

abbrev pub counted_text : (has_events : Bool) → List ℕ
counted_text true = codes "event "
counted_text false = codes "publication "

module _ (columns : List ColumnValue) (cells : List CellValue) where
  -- what a row shows under a column
  abbrev pub text : (name : List ℕ) → List ℕ
  text name = text_under name columns cells

  abbrev pub outcome_under : Outcome
  outcome_under = outcome_in (cell_under (codes "verdict") columns cells)

  -- when a policy's row is broken, for which bytes, and by which entry
  abbrev pub breach_text : (has_events : Bool) → List ℕ
  breach_text has_events = joined (codes "Broken after " ∷ counted_text has_events ∷ text (codes "done")
      ∷ codes ": bytes 0x" ∷ text (codes "first") ∷ codes " to 0x" ∷ text (codes "last") ∷ codes " of "
      ∷ owner_text (number_under (codes "owner") columns cells) ∷ codes "." ∷ [])

  -- why a policy's row fails
  abbrev pub reason_in : (has_events : Bool) → Option CellValue → List ℕ
  reason_in has_events (Some (OfVerdict (Broken breach))) = breach_text has_events
  reason_in has_events _ = codes "The row's moments don't come, or not in this order."

  abbrev pub verdict_message : (has_events : Bool) → List ℕ
  verdict_message has_events = reason_in has_events (cell_under (codes "verdict") columns cells)

  abbrev pub finding_under : Option Lint
  finding_under = lint_named (text (codes "name"))

  abbrev pub has_range : Bool
  has_range = is_address (cell_under (codes "first") columns cells)

  abbrev pub range_text : List ℕ
  range_text = if has_range then joined (codes " Bytes 0x" ∷ text (codes "first") ∷ codes " to 0x"
      ∷ text (codes "last") ∷ codes "." ∷ []) else []

  -- the remedy of what is found, its entry, its bytes and its modes
  abbrev pub finding_text : List ℕ
  finding_text = joined (remedy_of finding_under ∷ between (codes " Entry ") (text (codes "entry")) (codes ".")
      ∷ range_text ∷ between (codes " Modes ") (text (codes "modes")) (codes ".") ∷ [])

module _ (suite : SuiteSaid) (columns : List ColumnValue) (cells : List CellValue) where
  abbrev pub path_of : List ℕ
  path_of = suite.script
      ++ (if suite.table.has_hart then codes "/" ++ text_under (codes "hart") columns cells else [])

  abbrev pub verdict_case : CaseSaid
  verdict_case = record {
    outcome = outcome_under columns cells;
    finding = None;
    number = number_under (codes "n") columns cells;
    path = path_of;
    title = text columns cells (codes "n") ++ between (codes " ") (text columns cells (codes "name")) [];
    message = verdict_message columns cells suite.has_events
        ++ between (codes " ") (text columns cells (codes "comment")) [];
  }

  abbrev pub finding_case : CaseSaid
  finding_case = record {
    outcome = Failed;
    finding = finding_under columns cells;
    number = above_zero (number_under (codes "line") columns cells);
    path = path_of;
    title = joined (text columns cells (codes "name") ∷ codes ":" ∷ text columns cells (codes "line") ∷ []);
    message = finding_text columns cells;
  }

abbrev pub case_of : SuiteSaid → RowValue → CaseSaid
case_of suite row = let columns = whole suite.table row.kind in
    elim suite.check [
      | check.Policy ↦ verdict_case suite columns row.cells
      | check.Lint ↦ finding_case suite columns row.cells
    ]

abbrev pub cases_of : SuiteSaid → List RowValue → List CaseSaid
cases_of suite rows = map (case_of suite) rows
