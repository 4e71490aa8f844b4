-- Why a run gives no answer.
use Rattle.std.proofs.Common.{◌≡◌, ◌≢◌, ◌⊎◌, ◌∙◌, refl, sym, subst, inl, inr, ℕ, List, [], Option, Result, Ok, Err}
use Rattle.std.proofs.Common.{IfErr, IfOk, Some, option_map, unwrap_or}
use Rattle.std.proofs.lemmas.Result.{IfErr-weaker, IfOk-weaker}
use Rattle.std.specs.Io.KnownBytes.{Appends, Keeps}
use Rattle.clap.specs.Words.{HasKind, IsAmong, Row, Text, fault_of, kind_of, subcommand_of}
use Rattle.clap.specs.declared.error.Error.{Error}
use Rattle.clap.specs.declared.error.kind.ErrorKind.{ErrorKind}
use Rattle.clap.specs.declared.error.kind.ErrorKind.TheVariants.{DisplayHelp, DisplayVersion, OutOfMemory}
use Rattle.pmp_text.specs.MetNames.{Named}
use Rattle.pmp_audit.specs.Answers.{IsRefused}
use Rattle.pmp_audit.specs.TraceAudit.{AuditSays}
use Rattle.pmp_text.specs.declared.fault.Fault.{Fault}
use Rattle.pmp_tool.specs.declared.failure.Failure.{Failure}
use Rattle.pmp_tool.specs.declared.outcome.Outcome.{Outcome}
use Rattle.pmp_tool.specs.declared.outcome.Outcome.TheVariants.{Told}
use Rattle.pmp_tool.specs.declared.request.Audit.{Audit}
use Rattle.pmp_tool.specs.declared.request.Printed.TheVariants as printed
use Rattle.pmp_tool.specs.declared.request.Question.TheVariants as question
use Rattle.pmp_tool.specs.declared.request.Request.{Request}
use Rattle.pmp_tool.specs.declared.request.Request.TheVariants as request
use Rattle.pmp_tool.specs.declared.row_format.AskedFormat.{AskedFormat}
use Rattle.pmp_names.specs.AddressNames.{names_said}
use Rattle.pmp_text.specs.Outcomes as outcome
use Rattle.pmp_tool.specs.CommandLines.{AsksForPieces, MayAskForText, WordsAskFor, pmp_app}
use Rattle.pmp_tool.specs.Commands.{names_path_in, task_of}
use Rattle.pmp_tool.specs.Failures.{failure_status, unparsed, unparsed_as, failed}
use Rattle.pmp_tool.specs.Inputs.{AreBytesOf, Inputs, Paths}
use Rattle.pmp_tool.specs.Runs.{Answers, Does, DoesNot, Fails, IsUnasked, IsUndone, TellingFails, bad_names, does}
use Rattle.pmp_tool.specs.Runs.{does_not, has_no_text, no_memory, no_output, no_room, no_room_for_names, no_text}
use Rattle.pmp_tool.specs.Runs.{refused_words, tells}
use Rattle.pmp_tool.specs.Runs.{unasked, undone, unmade, unprinted, unstreamed}
use Rattle.pmp_tool.specs.Streams.{AuditByRefuses, ReportFails, StreamFails, no_script, no_trace, unaudited_trace}

module _ (words : List Text) (paths : Paths) (before after : Option (List ℕ)) (error : Error)
    (has : HasKind (fault_of pmp_app words) error)
    (no_help : kind_of error ≢ DisplayHelp) (no_version : kind_of error ≢ DisplayVersion)
    (keeps : Keeps before after) where
  among : (kind : ErrorKind) → kind_of error ≡ kind → (kind ≡ OutOfMemory → ⊥)
      → HasKind (fault_of pmp_app words) error → IsAmong (kind_of error) (fault_of pmp_app words)
  among kind is room (inl memory) = absurd (room (sym is ∙ memory))
  among kind is room (inr kinds) = kinds

  unparsed_words : (kind : ErrorKind) → kind_of error ≡ kind
      → Fails words paths before after (unparsed_as kind error)
  unparsed_words OutOfMemory is = no_memory keeps
  unparsed_words kind is =
      refused_words error
      (record { kind = among kind is (λ e. absurd cc) has; no_help = no_help; no_version = no_version }) keeps

  -- clap refuses the words, or has no memory
  pub refused_by_clap : Fails words paths before after (unparsed error)
  refused_by_clap = unparsed_words (kind_of error) refl

-- the words ask for a text
module _ (words : List Text) (error : Error) where
  text_kind : (kind : ErrorKind) → kind_of error ≡ kind
      → ((kind_of error ≢ DisplayHelp) × (kind_of error ≢ DisplayVersion) → ⊥)
      → (kind_of error ≡ DisplayHelp) ⊎ (kind_of error ≡ DisplayVersion)
  text_kind DisplayHelp is not_refused = inl is
  text_kind DisplayVersion is not_refused = inr is
  text_kind kind is not_refused = absurd (not_refused (λ e. absurd cc, λ e. absurd cc))

  text_among : HasKind (fault_of pmp_app words) error
      → (kind_of error ≡ DisplayHelp) ⊎ (kind_of error ≡ DisplayVersion) → MayAskForText words
  text_among (inl memory) (inl help) = absurd cc
  text_among (inl memory) (inr version) = absurd cc
  text_among (inr kinds) (inl help) = inl (subst (λ kind. IsAmong kind (fault_of pmp_app words)) help kinds)
  text_among (inr kinds) (inr version) = inr (subst (λ kind. IsAmong kind (fault_of pmp_app words)) version kinds)

  pub asked_for_text : HasKind (fault_of pmp_app words) error
      → ((kind_of error ≢ DisplayHelp) × (kind_of error ≢ DisplayVersion) → ⊥) → MayAskForText words
  asked_for_text has not_refused = text_among has (text_kind (kind_of error) refl not_refused)

-- a refusal with status 2 wrote nothing
refused_keeps : {A : Type 0} (Says : A → List ℕ → Type 0) (before after : Option (List ℕ))
    (Refuses : Fault → Type 0) (fault : Fault) → IsRefused Says before after Refuses fault
    → failure_status (failed fault) ≡ 2 → Keeps before after
refused_keeps Says before after Refuses fault (inl (output, short)) two =
    let three : failure_status (failed outcome.no_output) ≡ 2 = rw output at two in absurd cc
refused_keeps Says before after Refuses fault (inr (declined, keeps)) two = keeps

-- nor did an audit that is refused
report_keeps : {paths : Paths} {before after : Option (List ℕ)} {path : Text} {audit : Audit} {failure : Failure}
    → ReportFails paths before after path audit failure → failure_status failure ≡ 2 → Keeps before after
report_keeps (no_script fault cant keeps) two = keeps
report_keeps (no_trace fault cant keeps) two = keeps
report_keeps {before = before} {after = after} {audit = audit} (unaudited_trace script trace fault _ _ refused) two =
    refused_keeps (AuditSays script trace) before after (AuditByRefuses audit.checkers script trace) fault refused two

-- a long audit or an import is what the words ask for
stream_keeps : (words : List Text) (names : List Named) (paths : Paths) (before after : Option (List ℕ)) (logs : Inputs)
    (request : Request) (failure : Failure) → WordsAskFor names words (task_of request)
    → StreamFails paths before after logs request failure → failure_status failure ≡ 2
    → AsksForPieces words ⊎ Keeps before after
stream_keeps words names paths before after logs (request.LongAudit audit) failure asks fails two = inl (inl (record {
  script = audit.script.now;
  trace = audit.trace.now;
  jobs = audit.jobs;
  first = audit.first;
  names = names;
  task = asks;
}))
stream_keeps words names paths before after logs (request.Import import) failure asks fails two = inl (inr (record {
  log = import.log.now;
  format = import.format;
  options = import.options;
  folder = option_map (λ path. path.now) import.folder;
  names = names;
  task = asks;
}))
stream_keeps _ _ _ _ _ _ (request.Print (printed.Ask _ (question.Audit _))) _ _ fails two = inr (report_keeps fails.1 two)
stream_keeps _ _ _ _ _ _ (request.Print (printed.Ask _ (question.Check _))) _ _ fails _ = absurd fails
stream_keeps _ _ _ _ _ _ (request.Print (printed.Ask _ (question.Why _))) _ _ fails _ = absurd fails
stream_keeps _ _ _ _ _ _ (request.Print (printed.Ask _ (question.Policy _))) _ _ fails _ = absurd fails
stream_keeps _ _ _ _ _ _ (request.Print (printed.Ask _ (question.List _ _))) _ _ fails _ = absurd fails
stream_keeps _ _ _ _ _ _ (request.Print (printed.Ask _ (question.Writes _))) _ _ fails _ = absurd fails
stream_keeps _ _ _ _ _ _ (request.Print (printed.Ask _ (question.Lint _))) _ _ fails _ = absurd fails
stream_keeps _ _ _ _ _ _ (request.Print (printed.Ask _ (question.Diff _))) _ _ fails _ = absurd fails
stream_keeps _ _ _ _ _ _ (request.Print (printed.Harts _ _)) _ _ fails _ = absurd fails
stream_keeps _ _ _ _ _ _ (request.Print (printed.Show _)) _ _ fails _ = absurd fails
stream_keeps _ _ _ _ _ _ (request.Print (printed.Plan _)) _ _ fails _ = absurd fails
stream_keeps _ _ _ _ _ _ (request.Print (printed.PlanOf _)) _ _ fails _ = absurd fails
stream_keeps _ _ _ _ _ _ (request.Print (printed.PolicyFrom _)) _ _ fails _ = absurd fails

text_keeps : {before after : Option (List ℕ)} {failure : Failure} → TellingFails before after failure
    → failure_status failure ≡ 2 → Keeps before after
text_keeps (no_room keeps) two = keeps
text_keeps (no_output text front) two = absurd cc

-- what is done of what clap found in the words is done of the words
module _ (words : List Text) (paths : Paths) (before after : Option (List ℕ))
    (fine : fault_of pmp_app words ≡ []) (found : Option (Text × List Row))
    (is : found ≡ subcommand_of pmp_app words) (result : Result Outcome Failure) where
  pub answered : (made : Paths) → IfOk result (Does found paths before after made)
      → IfOk result (Answers words paths before after made)
  answered made = IfOk-weaker result _ _ (λ outcome done. does outcome fine (rw is at done))

  pub unanswered : IfErr result (DoesNot found paths before after)
      → IfErr result (Fails words paths before after)
  unanswered = IfErr-weaker result _ _ (λ failure done. does_not failure fine (rw is at done))

-- a text that they ask for was written
pub text_told : (words : List Text) (paths : Paths) (before after : Option (List ℕ))
    → MayAskForText words → (result : Result Outcome Failure)
    → IfOk result (λ outcome. (outcome ≡ Told) × ((bytes : List ℕ) × Appends before after bytes))
    → IfOk result (Answers words paths before after paths)
text_told words paths before after may (Ok outcome) (is, (text, written)) =
    rw is (tells text may written refl)
text_told words paths before after may (Err failure) told = tt

undone_keeps : (words : List Text) (names : Option (List Named)) (paths : Paths) (form : Option AskedFormat)
    (before after : Option (List ℕ)) (request : Request) (failure : Failure)
    → WordsAskFor (unwrap_or names []) words (task_of request)
    → IsUndone paths names form before after request failure → failure_status failure ≡ 2
    → AsksForPieces words ⊎ Keeps before after
undone_keeps words names paths form before after _ _ asks (has_no_text printed failure fails keeps) two = inr keeps
undone_keeps words names paths form before after _ _ asks (unprinted printed outcome text says front) two = absurd cc
undone_keeps words names paths form before after _ _ asks (unstreamed request failure none fails) two =
    stream_keeps words (unwrap_or names []) _ before after paths.traces request failure asks fails two
undone_keeps words names paths form before after _ _ asks (unmade _ _ _ _ _ _ keeps) two = inr keeps

none_kept : (words : List Text) {paths : Paths} {before after : Option (List ℕ)} {failure : Failure}
    → fault_of pmp_app words ≡ [] → DoesNot (subcommand_of pmp_app words) paths before after failure
    → failure_status failure ≡ 2 → AsksForPieces words ⊎ Keeps before after
none_kept words fine (unasked failure is keeps) two = inr keeps
none_kept words fine (undone request names form failure asks fails) two =
    undone_keeps words names _ form _ _ request failure (fine, asks.asks) fails two

pub keeps_at_two : {words : List Text} {paths : Paths} {before after : Option (List ℕ)} {failure : Failure}
    → Fails words paths before after failure → failure_status failure ≡ 2
    → AsksForPieces words ⊎ Keeps before after
keeps_at_two (refused_words error refused keeps) two = inr keeps
keeps_at_two (no_memory keeps) two = inr keeps
keeps_at_two (no_text failure asked fails) two = inr (text_keeps fails two)
keeps_at_two {words = words} (does_not failure fine fails) two = none_kept words fine fails two

-- names that can't be read are why nothing is asked for
pub names_fail : (found : Option (Text × List Row)) (traces : Inputs) (path text : List ℕ) (fault : Fault)
    → names_path_in found ≡ Ok (Some path) → AreBytesOf (traces path) text
    → (fault ≡ outcome.no_memory) ⊎ (names_said text ≡ Err fault) → IsUnasked found traces (failed fault)
names_fail found traces path text fault at is (inl memory) = rw memory no_room_for_names
names_fail found traces path text fault at is (inr bad) = bad_names path text fault at is bad
