-- The numbers that name an access.
use Rattle.std.specs.Prelude.{◌≡◌, ℕ}
use Rattle.pmp_core.specs.declared.access.Mode.{Mode}
use Rattle.pmp_core.specs.declared.access.Mode.TheVariants.{M, S, U}
use Rattle.pmp_core.specs.declared.access.Kind.{Kind}
use Rattle.pmp_core.specs.declared.access.Kind.TheVariants.{Fetch, Load, Store}
use Rattle.pmp_core.specs.declared.access.Access.{Access}

-- the modes' encodings (Volume II, 1.2)
abbrev pub mode_number : Mode → ℕ
mode_number U = 0
mode_number S = 1
mode_number M = 3

abbrev pub kind_number : Kind → ℕ
kind_number Fetch = 0
kind_number Load = 1
kind_number Store = 2

-- these four numbers name the access
pub record IsNamed (access : Access) (mode kind start length : ℕ) : Type 0 where
  pub mode_is : mode_number access.mode ≡ mode
  pub kind_is : kind_number access.kind ≡ kind
  pub start_is : access.start ≡ start
  pub length_is : access.length ≡ length
