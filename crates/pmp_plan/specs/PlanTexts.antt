-- How a text is read as a plan: its rows, or its first fault.
use Rattle.std.specs.Prelude.{ℕ, List, [], ◌∷◌, Some, None, Result, Ok, Err, codes, bytes_eq, if◌then◌else◌}
use Rattle.pmp_names.specs.AddressNames.{is_name, next_row}
use Rattle.pmp_text.specs.declared.flaw.Flaw.{Flaw}
use Rattle.pmp_text.specs.declared.refusal.Refusal.TheVariants.{BadHeader, BadRow}
use Rattle.pmp_text.specs.declared.fault.Fault.{Fault}
use Rattle.pmp_text.specs.Flaws.{and_then, as_whole, at_row, part}
use Rattle.pmp_text.specs.Lines.{lines}
use Rattle.pmp_plan.specs.declared.plan_row.Demand.{Demand}
use Rattle.pmp_plan.specs.Fields.{Fields, bytes_said, demand_said, fields_of}
use Rattle.pmp_text.specs.declared.fault.Source.TheVariants as source

-- what a row has
pub record Said : Type 0 where
  pub first : ℕ
  pub last : ℕ
  pub demand : Demand
  pub name : List ℕ

unfoldable pub row_of_fields : Fields → Result Said Flaw
row_of_fields fields =
    and_then (bytes_said fields) (λ (first, last). and_then (demand_said fields) (λ demand.
    if is_name fields.name then Ok (record { first = first; last = last; demand = demand; name = fields.name })
    else Err (part 5 BadRow)))

-- a line read as a row, or which of its fields is wrong
abbrev pub row_said : List ℕ → Result Said Flaw
row_said line = elim (fields_of line) [ Some fields ↦ row_of_fields fields | None ↦ Err (as_whole BadRow) ]

-- ---- all rows of a text

abbrev pub with_row : Result Said Flaw → (row : ℕ) → Result (List Said) Fault → Result (List Said) Fault
with_row (Err flaw) row rows = Err (at_row source.Plan row flaw)
with_row (Ok one) row (Ok rows) = Ok (one ∷ rows)
with_row (Ok one) row (Err fault) = Err fault

-- the rows of lines, numbered from `row`
abbrev pub rows_from : (row : ℕ) → List (List ℕ) → Result (List Said) Fault
rows_from row [] = Ok []
rows_from row (line ∷ more) = with_row (row_said line) row (rows_from (next_row row) more)

abbrev pub no_header : Fault
no_header = at_row source.Plan 0 (as_whole BadHeader)

abbrev pub plan_of_lines : List (List ℕ) → Result (List Said) Fault
plan_of_lines [] = Err no_header
plan_of_lines (header ∷ rows) =
    if bytes_eq header (codes "first,last,m,su,locked,name") then rows_from 1 rows else Err no_header

-- the rows of a text, or its first fault
abbrev pub plan_said : (text : List ℕ) → Result (List Said) Fault
plan_said text = plan_of_lines (lines text)
