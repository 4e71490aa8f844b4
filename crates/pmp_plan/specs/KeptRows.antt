-- The rows of a plan as the program stores them.
use Rattle.std.specs.Prelude.{◌≡◌, ℕ, List, [], ◌∷◌, ◌++◌, map, Result, Ok, Err}
use Rattle.pmp_text.specs.declared.flaw.Flaw.{Flaw}
use Rattle.pmp_text.specs.declared.fault.Fault.{Fault}
use Rattle.pmp_text.specs.Flaws.{at_row}
use Rattle.pmp_plan.specs.declared.plan_row.PlanRow.{PlanRow}
use Rattle.pmp_plan.specs.PlanTexts.{Said, row_said}
use Rattle.pmp_text.specs.declared.fault.Source.TheVariants as source

-- one of them, as plain values
abbrev pub said : PlanRow → Said
said row = record { first = row.first; last = row.last; demand = row.demand; name = row.name.now }

abbrev pub said_so : Result PlanRow Flaw → Result Said Flaw
said_so (Ok row) = Ok (said row)
said_so (Err flaw) = Err flaw

-- a line's row is appended to the rows
pub record AddsRow (line : List ℕ) (before after : List PlanRow) : Type 0 where
  pub one : Said
  pub is : row_said line ≡ Ok one
  pub rows : map said after ≡ map said before ++ one ∷ []

-- the line with this number is no row
pub record IsFaultOf (line : List ℕ) (row : ℕ) (fault : Fault) : Type 0 where
  pub flaw : Flaw
  pub said : row_said line ≡ Err flaw
  pub is : fault ≡ at_row source.Plan row flaw

-- rows, then those of the rest
abbrev pub joined : List Said → Result (List Said) Fault → Result (List Said) Fault
joined rows (Ok more) = Ok (rows ++ more)
joined rows (Err fault) = Err fault
