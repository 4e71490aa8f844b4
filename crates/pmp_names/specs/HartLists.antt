-- The names of harts as the program stores them.
use Rattle.std.specs.Prelude.{◌≡◌, List, ℕ, [], ◌∷◌, ◌++◌, map, true}
use Rattle.std.specs.List.{filter, list_all}
use Rattle.pmp_names.specs.declared.hart_name.HartName.{HartName}
use Rattle.pmp_names.specs.HartNames.{is_hart_name, is_script}

abbrev pub names_of : List HartName → List (List ℕ)
names_of harts = map (λ hart. hart.name.bytes) harts

-- these are the scripts among these files, in order, and rows can begin with their names
pub record AreNames (files : List (List ℕ)) (harts : List HartName) : Type 0 where
  pub same : names_of harts ≡ filter is_script files
  pub are_names : list_all is_hart_name (filter is_script files) ≡ true

-- one more file
pub record AddsFile (file : List ℕ) (before after : List HartName) : Type 0 where
  pub names : names_of after ≡ names_of before ++ filter is_script (file ∷ [])
  pub are_names : list_all is_hart_name (filter is_script (file ∷ [])) ≡ true
