-- Scripts of harts in a folder.
use Rattle.std.specs.Prelude.{ℕ, List, ◌++◌, codes, decimal, All, ◌⊎◌, ◌≡◌}
use Rattle.clap.specs.Words.{Text}
use Rattle.pmp_text.specs.declared.refusal.Refusal.{Refusal}
use Rattle.pmp_text.specs.declared.refusal.Refusal.TheVariants.{Memory, Output}
use Rattle.pmp_tool.specs.declared.hart_script.HartScript.{HartScript}
use Rattle.pmp_tool.specs.Inputs.{AreBytesOf, Paths}

-- the file name of a hart's script
abbrev pub script_name : (hart : ℕ) → Text
script_name hart = codes "hart" ++ (decimal hart ++ codes ".pmp")

abbrev pub path_in : (folder : Text) (hart : ℕ) → Text
path_in folder hart = folder ++ (codes "/" ++ script_name hart)

-- a path is the folder's, or of something in it
abbrev pub IsWithin : (folder path : Text) → Type 0
IsWithin folder path = (path ≡ folder) ⊎ ((rest : Text) × (path ≡ folder ++ (codes "/" ++ rest)))

-- each file in the folder is the hart's script, and all that stands elsewhere is as before, as far as known
pub record AreMade (folder : Text) (scripts : List HartScript) (before after : Paths) : Type 0 where
  pub files : All (λ script. AreBytesOf (after.scripts (path_in folder script.hart)) script.text.items) scripts
  pub scripts_elsewhere : (path : Text) → ¬ IsWithin folder path → after.scripts path ≡ before.scripts path
  pub traces_elsewhere : (path : Text) → ¬ IsWithin folder path → after.traces path ≡ before.traces path
  pub folders_elsewhere : (path : Text) → ¬ IsWithin folder path → after.folders path ≡ before.folders path

-- a folder can't be made
abbrev pub CantBeMade : Refusal → Type 0
CantBeMade refusal = (refusal ≡ Output) ⊎ (refusal ≡ Memory)
