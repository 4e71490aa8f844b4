-- The scripts of all harts of a log, in a folder made for them.
use Rattle.std.specs.Prelude.{◌≡◌, ◌+◌, ◌==◌, ◌<◌, ℕ, List, [], ◌∷◌, ◌++◌, length, map, Option, Some, None, Ok}
use Rattle.std.specs.Prelude.{All, if◌then◌else◌}
use Rattle.clap.specs.Words.{Text}
use Rattle.pmp_import.specs.Imports.{Stops}
use Rattle.pmp_import.specs.Surveys.{surveyed}
use Rattle.pmp_text.specs.declared.fault.Fault.{Fault}
use Rattle.pmp_import.specs.declared.format.Format.{Format}
use Rattle.pmp_import.specs.declared.survey.Survey.{Survey}
use Rattle.pmp_text.specs.Lines.{lines}
use Rattle.pmp_text.specs.declared.refusal.Refusal.{Refusal}
use Rattle.pmp_text.specs.declared.refusal.Refusal.TheVariants.{Memory, NoHart}
use Rattle.pmp_tool.specs.declared.failure.Failure.{Failure}
use Rattle.pmp_tool.specs.declared.hart_script.HartScript.{HartScript}
use Rattle.pmp_tool.specs.declared.note.Note.{Note}
use Rattle.pmp_tool.specs.declared.note.Note.TheVariants.{Scripts}
use Rattle.pmp_tool.specs.declared.outcome.Outcome.{Outcome}
use Rattle.pmp_tool.specs.declared.outcome.Outcome.TheVariants.{Imported}
use Rattle.pmp_tool.specs.declared.request.Import.{Import}
use Rattle.pmp_tool.specs.Failures.{in_memory, refused, failed}
use Rattle.pmp_tool.specs.HartScripts.{AreMade, CantBeMade}
use Rattle.pmp_tool.specs.Inputs.{AreBytesOf, CantBeOpened, Paths}
use Rattle.pmp_tool.specs.Streams.{ImportFails, ImportSays}

-- the harts from this number on that have writes, by each hart's count
abbrev pub writers_from : (hart : ℕ) → (writes : List ℕ) → List ℕ
writers_from hart [] = []
writers_from hart (count ∷ more) =
    if count == 0 then writers_from (hart + 1) more else hart ∷ writers_from (hart + 1) more

-- the harts that have writes by this survey of a log
abbrev pub writers : Survey → List ℕ
writers survey = writers_from 0 survey.writes

-- the import of one hart
abbrev pub import_of : (hart : ℕ) → Import → Import
import_of hart import = record import { options = record import.options { hart = Some hart } }

-- a survey of the log found this, with no hart asked for
pub record IsFound (known : Option (List ℕ)) (format : Format) (survey : Survey) : Type 0 where
  pub log : List ℕ
  pub is_log : AreBytesOf known log
  pub found : surveyed format None (lines log) ≡ Ok survey

-- a log can't be surveyed
pub data IsUnfound (known : Option (List ℕ)) (format : Format) : Failure → Type 0 where
  unopened : (fault : Refusal) → CantBeOpened fault → IsUnfound known format (refused fault)
  unsurveyed : (log : List ℕ) (fault : Fault) → AreBytesOf known log
      → Stops (surveyed format None) log fault → IsUnfound known format (failed fault)

module _ (paths : Paths) (import : Import) where
  -- the text is the script of this hart's import
  pub record IsOfHart (script : HartScript) : Type 0 where
    pub note : Note
    pub says : ImportSays (paths.traces import.log.now) (import_of script.hart import) note script.text.items

  -- these are the scripts of these harts
  pub record AreOf (harts : List ℕ) (made : List HartScript) : Type 0 where
    pub names : map (λ script. script.hart) made ≡ harts
    pub each : All IsOfHart made

  -- this hart's script was appended
  pub record AddsHart (hart : ℕ) (before after : List HartScript) : Type 0 where
    pub script : HartScript
    pub hart_is : script.hart ≡ hart
    pub of : IsOfHart script
    pub items : after ≡ before ++ script ∷ []

  -- the import of one hart fails, or there is no memory for its script
  pub data OneFails : Failure → Type 0 where
    of_hart : (hart : ℕ) (failure : Failure) (part : Option (List ℕ))
        → ImportFails (paths.traces import.log.now) (import_of hart import) (Some []) part failure
        → OneFails (in_memory failure)
    unkept : OneFails (refused Memory)

  -- the folder at a path has the scripts of the harts that have writes
  pub record Makes (path : Text) (made : Paths) (outcome : Outcome) : Type 0 where
    pub survey : Survey
    pub found : IsFound (paths.traces import.log.now) import.format survey
    pub all : List HartScript
    pub are : AreOf (writers survey) all
    pub some : 0 < length all
    pub in_folder : AreMade path all paths made
    pub is : outcome ≡ Imported (Scripts (length all))

  -- why there is no folder: the log can't be read or has no hart, an import fails, or the folder can't be made
  pub data CantMake : Failure → Type 0 where
    unread_log : (failure : Failure) → IsUnfound (paths.traces import.log.now) import.format failure → CantMake failure
    no_harts : (survey : Survey) → IsFound (paths.traces import.log.now) import.format survey → writers survey ≡ []
        → CantMake (refused NoHart)
    one_fails : (failure : Failure) → OneFails failure → CantMake failure
    unmade : (survey : Survey) → IsFound (paths.traces import.log.now) import.format survey
        → (all : List HartScript) → AreOf (writers survey) all → 0 < length all
        → (fault : Refusal) → CantBeMade fault → CantMake (refused fault)
