-- What a run of the program answers, and why it gives no answer.
use Rattle.std.specs.Prelude.{◌≡◌, ◌⊎◌, ℕ, List, [], Option, Some, None, option_map, unwrap_or, Ok, Err}
use Rattle.std.specs.Io.KnownBytes.{Appends, Keeps}
use Rattle.clap.specs.Words.{Row, Text, fault_of, subcommand_of}
use Rattle.clap.specs.declared.error.Error.{Error}
use Rattle.pmp_text.specs.Bytes.{AppendsBeginning}
use Rattle.pmp_text.specs.MetNames.{Named}
use Rattle.pmp_text.specs.declared.refusal.Refusal.{Refusal}
use Rattle.pmp_text.specs.declared.refusal.Refusal.TheVariants.{Memory, Output}
use Rattle.pmp_text.specs.declared.trace.reader.TheConstants.{MAX_TRACE}
use Rattle.pmp_text.specs.declared.fault.Fault.{Fault}
use Rattle.pmp_names.specs.AddressNames.{names_said}
use Rattle.pmp_tool.specs.declared.failure.Failure.{Failure}
use Rattle.pmp_tool.specs.declared.failure.Failure.TheVariants.{Refused, Words}
use Rattle.pmp_tool.specs.declared.fault_line.FaultLine.{FaultLine}
use Rattle.pmp_tool.specs.declared.outcome.Outcome.{Outcome}
use Rattle.pmp_tool.specs.declared.outcome.Outcome.TheVariants.{Told}
use Rattle.pmp_tool.specs.declared.request.Import.{Import}
use Rattle.pmp_tool.specs.declared.request.Printed.{Printed}
use Rattle.pmp_tool.specs.declared.request.Request.{Request}
use Rattle.pmp_tool.specs.declared.request.Request.TheVariants as request
use Rattle.pmp_tool.specs.declared.row_format.AskedFormat.{AskedFormat}
use Rattle.pmp_tool.specs.CommandLines.{IsRefusedCommandLine, MayAskForText, pmp_app}
use Rattle.pmp_tool.specs.Commands.{asked_of, names_path_in, task_of}
use Rattle.pmp_tool.specs.Failures.{refused, failed}
use Rattle.pmp_tool.specs.HartImports.{CantMake, Makes}
use Rattle.pmp_tool.specs.Inputs.{AreBytesOf, CantBeRead, Inputs, Paths}
use Rattle.pmp_tool.specs.NumberedInputs.{paths_for}
use Rattle.pmp_tool.specs.RowFormats.{asked_format_in, format_task}
use Rattle.pmp_tool.specs.Streams.{StreamFails, StreamSays}
use Rattle.pmp_tool.specs.Texts.{TextFails, TextSays}

-- ---- what clap found in the words

-- the names that addresses have: those of the text at a path, if there is one
abbrev pub AreNamesAt : (traces : Inputs) → (path : Option Text) → Option (List Named) → Type 0
AreNamesAt traces None names = names ≡ None
AreNamesAt traces (Some path) names =
    (text : List ℕ) × AreBytesOf (traces path) text × ((all : List Named) × (names_said text ≡ Ok all) × (names ≡ Some all))

module _ (found : Option (Text × List Row)) (traces : Inputs) where
  -- it asks for this, with the names of the text at a path, in this form
  pub record AsksFor (request : Request) (names : Option (List Named)) (form : Option AskedFormat) : Type 0 where
    pub format : asked_format_in found ≡ Ok (option_map format_task form)
    pub path : Option Text
    pub at : names_path_in found ≡ Ok path
    pub are : AreNamesAt traces path names
    pub asks : asked_of (unwrap_or names []) found ≡ Ok (task_of request)

  -- it asks for nothing: for a form that there isn't, two inputs are to be standard input, there are no names at the
  -- path, or a word isn't what its place asks for
  pub data IsUnasked : Failure → Type 0 where
    no_format : (fault : FaultLine) → asked_format_in found ≡ Err fault → IsUnasked (Refused fault)
    twice : (fault : FaultLine) → names_path_in found ≡ Err fault → IsUnasked (Refused fault)
    no_names : (path : Text) (fault : Refusal) → names_path_in found ≡ Ok (Some path)
        → CantBeRead MAX_TRACE (traces path) fault → IsUnasked (refused fault)
    bad_names : (path text : List ℕ) (fault : Fault) → names_path_in found ≡ Ok (Some path)
        → AreBytesOf (traces path) text → names_said text ≡ Err fault → IsUnasked (failed fault)
    no_room_for_names : IsUnasked (refused Memory)
    refused_word : (path : Option Text) (names : Option (List Named)) (fault : FaultLine)
        → names_path_in found ≡ Ok path → AreNamesAt traces path names
        → asked_of (unwrap_or names []) found ≡ Err fault → IsUnasked (Refused fault)

-- the folder that a request makes
abbrev pub new_folder : Request → Option (Import × Text)
new_folder (request.Import import) = option_map (λ path. (import, path.now)) import.folder
new_folder _ = None

module _ (paths : Paths) (names : Option (List Named)) (form : Option AskedFormat) (before after : Option (List ℕ)) where
  -- a request is done: its text was printed, it was written as it was made, or a folder was made
  pub data IsDone : Request → (made : Paths) → Outcome → Type 0 where
    prints : (printed : Printed) (outcome : Outcome) (text : List ℕ)
        → TextSays (paths_for names paths) names form printed outcome text → Appends before after text
        → IsDone (request.Print printed) paths outcome
    streams : (request : Request) (outcome : Outcome) → new_folder request ≡ None
        → StreamSays (paths_for names paths) before after paths.traces request outcome → IsDone request paths outcome
    makes : (request : Request) (import : Import) (path : Text) (made : Paths) (outcome : Outcome)
        → new_folder request ≡ Some (import, path) → Makes paths import path made outcome → Keeps before after
        → IsDone request made outcome

  -- or it isn't
  pub data IsUndone : Request → Failure → Type 0 where
    has_no_text : (printed : Printed) (failure : Failure)
        → TextFails (paths_for names paths) names printed failure → Keeps before after
        → IsUndone (request.Print printed) failure
    unprinted : (printed : Printed) (outcome : Outcome) (text : List ℕ)
        → TextSays (paths_for names paths) names form printed outcome text → AppendsBeginning before after text
        → IsUndone (request.Print printed) (refused Output)
    unstreamed : (request : Request) (failure : Failure) → new_folder request ≡ None
        → StreamFails (paths_for names paths) before after paths.traces request failure → IsUndone request failure
    unmade : (request : Request) (import : Import) (path : Text) (failure : Failure)
        → new_folder request ≡ Some (import, path) → CantMake paths import failure → Keeps before after
        → IsUndone request failure

module _ (found : Option (Text × List Row)) (paths : Paths) (before after : Option (List ℕ)) where
  pub record Does (made : Paths) (outcome : Outcome) : Type 0 where
    pub request : Request
    pub names : Option (List Named)
    pub form : Option AskedFormat
    pub asks : AsksFor found paths.traces request names form
    pub done : IsDone paths names form before after request made outcome

  pub data DoesNot : Failure → Type 0 where
    unasked : (failure : Failure) → IsUnasked found paths.traces failure → Keeps before after → DoesNot failure
    undone : (request : Request) (names : Option (List Named)) (form : Option AskedFormat) (failure : Failure)
        → AsksFor found paths.traces request names form → IsUndone paths names form before after request failure
        → DoesNot failure

-- what the words ask for was written: help or the version, or the answer to a command
pub data Answers (words : List Text) (paths : Paths) (before after : Option (List ℕ)) (made : Paths)
    : Outcome → Type 0 where
  tells : (text : List ℕ) → MayAskForText words → Appends before after text → made ≡ paths
      → Answers words paths before after made Told
  does : (outcome : Outcome) → fault_of pmp_app words ≡ []
      → Does (subcommand_of pmp_app words) paths before after made outcome
      → Answers words paths before after made outcome

-- why a text of help, or the version, isn't written wholly
pub data TellingFails (before after : Option (List ℕ)) : Failure → Type 0 where
  no_room : Keeps before after → TellingFails before after (refused Memory)
  no_output : (text : List ℕ) → AppendsBeginning before after text → TellingFails before after (refused Output)

-- why words get no answer
pub data Fails (words : List Text) (paths : Paths)
    (before after : Option (List ℕ)) : Failure → Type 0 where
  -- clap refuses them
  refused_words : (error : Error) → IsRefusedCommandLine words error → Keeps before after
      → Fails words paths before after (Words error)
  -- there is no memory for what clap makes of them
  no_memory : Keeps before after → Fails words paths before after (refused Memory)
  -- they ask for help or the version, which isn't written wholly
  no_text : (failure : Failure) → MayAskForText words → TellingFails before after failure
      → Fails words paths before after failure
  -- clap takes them, and what it finds in them isn't done
  does_not : (failure : Failure) → fault_of pmp_app words ≡ []
      → DoesNot (subcommand_of pmp_app words) paths before after failure
      → Fails words paths before after failure
