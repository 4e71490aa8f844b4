-- Names of addresses as the program keeps them.
use Rattle.std.specs.Prelude.{◌≡◌, ℕ, List, [], ◌∷◌, ◌++◌, map, Result, Ok, Err}
use Rattle.pmp_text.specs.Flaws.{at_row}
use Rattle.pmp_text.specs.declared.fault.Source.TheVariants as source
use Rattle.pmp_text.specs.declared.flaw.Flaw.{Flaw}
use Rattle.pmp_text.specs.declared.address_name.AddressName.{AddressName}
use Rattle.pmp_text.specs.declared.fault.Fault.{Fault}
use Rattle.pmp_text.specs.MetNames.{Named, named}
use Rattle.pmp_names.specs.AddressNames.{name_said}

abbrev pub said_so : Result AddressName Flaw → Result Named Flaw
said_so (Ok one) = Ok (named one)
said_so (Err flaw) = Err flaw

-- a line's name joins the names
pub record AddsName (line : List ℕ) (before after : List AddressName) : Type 0 where
  pub one : Named
  pub said : name_said line ≡ Ok one
  pub names : map named after ≡ map named before ++ one ∷ []

-- a line of this number gives none
pub record IsFaultOf (line : List ℕ) (row : ℕ) (fault : Fault) : Type 0 where
  pub flaw : Flaw
  pub said : name_said line ≡ Err flaw
  pub is : fault ≡ at_row source.Names row flaw

-- names, and then those of the rest
abbrev pub joined : List Named → Result (List Named) Fault → Result (List Named) Fault
joined names (Ok more) = Ok (names ++ more)
joined names (Err fault) = Err fault
