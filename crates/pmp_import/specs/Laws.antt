-- The statements of laws of the scripts that logs have.
use Rattle.std.specs.Prelude.{◌≡◌, ℕ, List, ◌++◌, Ok}
use Rattle.std.specs.Result.{IsOk}
use Rattle.pmp_import.specs.declared.format.Format.{Format}
use Rattle.pmp_import.specs.declared.given.Given.{Given}
use Rattle.pmp_import.specs.declared.options.Options.{Options}
use Rattle.pmp_import.specs.declared.survey.Survey.{Survey}
use Rattle.pmp_import.specs.Imported.{front_text, imported}
use Rattle.pmp_import.specs.Surveys.{given_for, surveyed}

-- a log whose survey found no fault has a script
abbrev pub SurveyedLaw : Type 0
SurveyedLaw = (format : Format) (options : Options) (lines : List (List ℕ)) (survey : Survey) (given : Given)
    → surveyed format options.hart lines ≡ Ok survey → given_for format options survey ≡ Ok given
    → IsOk (imported given lines)

-- the script of a log begins with what its first lines give
abbrev pub FrontLaw : Type 0
FrontLaw = (given : Given) (front behind : List (List ℕ)) (script : List ℕ)
    → imported given (front ++ behind) ≡ Ok script → (rest : List ℕ) × (script ≡ front_text given front ++ rest)
