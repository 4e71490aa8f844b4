-- A reading's steps, used only by private contracts.
use Rattle.std.specs.Prelude.{◌≡◌, ◌⊎◌, ℕ, ◌+◌, List, [], ◌++◌, length, Ok, Err}
use Rattle.pmp_text.specs.declared.refusal.Refusal.TheVariants.{Memory}
use Rattle.pmp_text.specs.declared.fault.Fault.{Fault}
use Rattle.pmp_import.specs.declared.format.Format.{Format}
use Rattle.pmp_import.specs.declared.given.Given.{Given}
use Rattle.pmp_import.specs.declared.given.Walk.{Walk}
use Rattle.pmp_import.specs.declared.survey.Survey.{Survey}
use Rattle.pmp_import.specs.Imported.{at, imported, imported_from, lines_text, with_front}
use Rattle.pmp_import.specs.Surveys.{one_more, surveyed_from}
use Rattle.pmp_text.specs.Outcomes as outcome

-- a text was appended, perhaps an empty one
pub record HasGrown (before after : List ℕ) : Type 0 where
  pub more : List ℕ
  pub grown : after ≡ before ++ more

-- these lines were read, and their text was appended
pub record GoesOn (given : Given) (old new : Walk) (lines : List (List ℕ)) (before after : List ℕ) : Type 0 where
  pub text : List ℕ
  pub appended : after ≡ before ++ text
  pub goes_on : (more : List (List ℕ)) → imported_from given old (lines ++ more)
      ≡ with_front text (imported_from given new more)
  pub gives : (more : List (List ℕ)) → lines_text given old (lines ++ more) ≡ text ++ lines_text given new more
  pub counted : (count : ℕ) → old.line ≡ one_more count → new.line ≡ one_more (count + length lines)

-- one of these lines is at fault, or memory ran out
abbrev pub StopsAt : (given : Given) → (walk : Walk) → (lines : List (List ℕ)) → Fault → Type 0
StopsAt given walk lines fault = (fault ≡ outcome.no_memory)
    ⊎ ((more : List (List ℕ)) → imported_from given walk (lines ++ more) ≡ Err fault)

-- no line is left
pub record EndsWith (given : Given) (walk : Walk) (before after : List ℕ) : Type 0 where
  pub text : List ℕ
  pub appended : after ≡ before ++ text
  pub ends : imported_from given walk [] ≡ Ok text

-- no line is about the hart, or memory ran out
abbrev pub StopsAtEnd : (given : Given) → (walk : Walk) → Fault → Type 0
StopsAtEnd given walk fault = (fault ≡ outcome.no_memory) ⊎ (imported_from given walk [] ≡ Err fault)

-- the script of a log with these lines was appended
pub record AppendsScript (given : Given) (lines : List (List ℕ)) (before after : List ℕ) : Type 0 where
  pub script : List ℕ
  pub gives : imported given lines ≡ Ok script
  pub appended : after ≡ before ++ script

-- they give none, or memory ran out
abbrev pub HasNoScript : (given : Given) → (lines : List (List ℕ)) → Fault → Type 0
HasNoScript given lines fault = (fault ≡ outcome.no_memory) ⊎ (imported given lines ≡ Err fault)

-- ---- the survey

-- these lines were surveyed
pub record FindsOn (format : Format) (old new : Survey) (lines : List (List ℕ)) : Type 0 where
  pub finds_on : (more : List (List ℕ)) → surveyed_from format old (lines ++ more) ≡ surveyed_from format new more
  pub counted : (count : ℕ) → old.line ≡ one_more count → new.line ≡ one_more (count + length lines)

-- one of these lines is at fault
abbrev pub FindsFault : (format : Format) → Survey → (lines : List (List ℕ)) → Fault → Type 0
FindsFault format survey lines fault =
    (more : List (List ℕ)) → surveyed_from format survey (lines ++ more) ≡ Err fault
