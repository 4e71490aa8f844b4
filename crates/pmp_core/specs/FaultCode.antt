-- Exception codes (Volume II, 3.1.15).
use Rattle.std.specs.Prelude.{ℕ, Option, Some, None, if◌then◌else◌}
use Rattle.pmp_core.specs.declared.access.Kind.{Kind}
use Rattle.pmp_core.specs.declared.access.Kind.TheVariants.{Fetch, Load, Store}
use Rattle.pmp_core.specs.declared.access.Access.{Access}
use Rattle.pmp_core.specs.declared.decision.Decision.{Decision}

-- instruction access fault, load access fault, store or AMO access fault (3.1.15)
abbrev pub access_fault_code : Kind → ℕ
access_fault_code Fetch = 1
access_fault_code Load = 5
access_fault_code Store = 7

-- the exception code of a refused access, or none if it is allowed
abbrev pub fault_of : Access → Decision → Option ℕ
fault_of access decision = if decision.allowed then None else Some (access_fault_code access.kind)
