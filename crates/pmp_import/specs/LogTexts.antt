-- The script of a log given as a text.
use Rattle.std.specs.Prelude.{◌≡◌, ◌⊎◌, ℕ, List, ◌++◌, Result, Ok, Err}
use Rattle.pmp_text.specs.declared.refusal.Refusal.TheVariants.{Memory}
use Rattle.pmp_text.specs.declared.fault.Fault.{Fault}
use Rattle.pmp_import.specs.declared.format.Format.{Format}
use Rattle.pmp_import.specs.declared.given.Given.{Given}
use Rattle.pmp_import.specs.declared.options.Options.{Options}
use Rattle.pmp_import.specs.Imported.{at, imported}
use Rattle.pmp_import.specs.Surveys.{given_for, surveyed}
use Rattle.pmp_text.specs.Outcomes as outcome

-- the log was surveyed, and the survey gives what the script is for
abbrev pub given_by : Format → Options → List (List ℕ) → Result Given Fault
given_by format options lines = elim (surveyed format options.hart lines) [
  | Ok survey ↦ given_for format options survey
  | Err fault ↦ Err fault
]

-- the script of a log with these lines
abbrev pub script_by : Format → Options → List (List ℕ) → Result (List ℕ) Fault
script_by format options lines = elim (given_by format options lines) [
  | Ok given ↦ imported given lines
  | Err fault ↦ Err fault
]

-- it was appended
pub record IsScriptOf (format : Format) (options : Options) (lines : List (List ℕ)) (before after : List ℕ) : Type 0
  where
    pub script : List ℕ
    pub gives : script_by format options lines ≡ Ok script
    pub appended : after ≡ before ++ script

-- the log gives none, or memory ran out
abbrev pub GivesNone : Format → Options → (lines : List (List ℕ)) → Fault → Type 0
GivesNone format options lines fault = (fault ≡ outcome.no_memory) ⊎ (script_by format options lines ≡ Err fault)
