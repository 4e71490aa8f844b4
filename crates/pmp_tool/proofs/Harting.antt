-- A question about each hart of a folder.
use Rattle.std.proofs.Common.{◌≡◌, ◌∙◌, refl, sym, ap, ℕ, List, [], ◌∷◌, ◌++◌, append_assoc, length, map, Bool}
use Rattle.std.proofs.Common.{None, Option, Some, arith, false, if◌then◌else◌, is_some, map-id, true, unwrap_or}
use Rattle.std.proofs.lemmas.List.{flat_map_more, map-append}
use Rattle.std.proofs.lemmas.List.Elements.{All-push}
use Rattle.std.proofs.lemmas.List.Sums.{fold-append}
use Rattle.clap.specs.Words.{Text}
use Rattle.pmp_text.specs.Cells.{RowValue}
use Rattle.pmp_text.specs.MetNames.{Named, given_names}
use Rattle.pmp_text.specs.declared.address_name.AddressNames.{AddressNames}
use Rattle.pmp_names.specs.declared.hart_name.HartName.{HartName}
use Rattle.pmp_names.specs.HartLists.{names_of}
use Rattle.pmp_names.specs.WholeRows.{whole}
use Rattle.pmp_text.specs.declared.fault.Source.{Source}
use Rattle.pmp_tool.specs.declared.failure.Failure.{Failure}
use Rattle.pmp_tool.specs.declared.harts.Harts.{Harts}
use Rattle.pmp_tool.specs.declared.outcome.Outcome.{Outcome}
use Rattle.pmp_tool.specs.declared.outcome.Outcome.TheVariants.{Listed}
use Rattle.pmp_tool.specs.declared.request.Question.{Question}
use Rattle.pmp_tool.specs.declared.request.Question.TheVariants as question
use Rattle.pmp_tool.specs.Commands.{query_of}
use Rattle.pmp_tool.specs.Finding.{AreUnfoundAt, unfit, unlisted}
use Rattle.pmp_tool.specs.HartSteps.{FailsOn, IsAnsweredOn, fails_alone, lacks_room, with_new}
use Rattle.pmp_tool.specs.Harts.{AreAnswered, AreUnfound, HartAnswer, HartsFail, IsAnswered, all_rows, new_script, no_harts}
use Rattle.pmp_tool.specs.Harts.{no_room, on_hart, path_on, query_on, unread_folder, worse, worst}
use Rattle.pmp_tool.specs.Inputs.{Folders, Paths}
use Rattle.pmp_tool.specs.Questions.{names_for, takes_names}

-- why the folder at a path has no harts is why a question has none
pub unfound_at : (folders : Folders) (own : Text) (question : Question) (path : Text) (source : Source)
    (failure : Failure) → AreUnfoundAt (folders path) source failure → AreUnfound folders own question failure
unfound_at folders own question path source _ (unlisted fault cant) = unread_folder fault source cant
unfound_at folders own question path source _ (unfit fault files is none) = no_harts fault source path files is none

-- a question about the new script of a hart is the hart's
query_asked : (new : Bool) (name : Text) (question : Question)
    → with_new (path_on new (unwrap_or (new_script question) []) name) (query_of question)
    ≡ query_on new name (query_of question)
query_asked new name (question.Check check) = refl
query_asked new name (question.Why why) = refl
query_asked new name (question.Audit audit) = refl
query_asked new name (question.Policy policy) = refl
query_asked new name (question.List listing after) = refl
query_asked new name (question.Writes accepted) = refl
query_asked new name (question.Lint accepted) = refl
query_asked new name (question.Diff diff) = refl

pub query_of_hart : (is_new : Bool) (name new : Text) (question one : Question)
    → new ≡ path_on is_new (unwrap_or (new_script question) []) name
    → query_of one ≡ with_new new (query_of question) → query_of one ≡ query_on is_new name (query_of question)
query_of_hart is_new name new question one is asks =
    asks ∙ ap (λ path. with_new path (query_of question)) is ∙ query_asked is_new name question

pub new_path : (is_new : Bool) (question : Question) {first second : Text} → first ≡ second
    → path_on is_new (unwrap_or (new_script question) []) first ≡ path_on is_new (unwrap_or (new_script question) []) second
new_path is_new question same = ap (path_on is_new (unwrap_or (new_script question) [])) same

module _ (paths : Paths) (path : Text) (question : Question) (harts : Harts) where
  -- one hart more was answered
  pub answered_more : (names : Option (List Named)) (name : Text) (rest : List Text) (before after : List RowValue)
      (was next : Outcome) (answers : List HartAnswer) → AreAnswered paths path question harts (name ∷ rest) answers
      → before ≡ all_rows (names_for question names) answers → was ≡ worst answers
      → IsAnsweredOn paths path question harts names name before after next
      → (more : List HartAnswer) × AreAnswered paths path question harts rest more
      × (after ≡ all_rows (names_for question names) more) × (worse was next ≡ worst more)
  answered_more names name rest before after was next answers are rows outcome step =
      let name_of = λ (answer : HartAnswer). answer.name in
      let own = names_for question names in
      let rows_of = λ (answer : HartAnswer). map (whole (Some answer.name) own) answer.rows in
      let worse_by = λ (outcome : Outcome) (answer : HartAnswer). worse outcome answer.outcome in
      let one = step.answer in (
        answers ++ one ∷ [],
        record {
          each = All-push (IsAnswered paths path question harts) answers one are.each step.is;
          names = are.names ∙ ap (λ first. map name_of answers ++ first ∷ rest) (sym step.name_is)
              ∙ sym (append_assoc (map name_of answers) (one.name ∷ []) rest)
              ∙ ap (λ names. names ++ rest) (sym (map-append name_of answers (one ∷ [])));
        },
        step.rows ∙ ap (λ rows. rows ++ map (whole (Some name) own) one.rows) rows
            ∙ ap (λ first. all_rows own answers ++ map (whole (Some first) own) one.rows) (sym step.name_is)
            ∙ flat_map_more rows_of [] answers one,
        ap (λ first. worse first next) outcome ∙ ap (worse (worst answers)) (sym step.outcome_is)
            ∙ sym (fold-append worse_by Listed answers (one ∷ [])),
      )

  -- one fails, behind those that were answered
  pub failed_on : (hart : HartName) (rest : List Text) (answers : List HartAnswer)
      → AreAnswered paths path question harts (hart.name.bytes ∷ rest) answers
      → (failure : Failure) → FailsOn paths path question harts hart failure → HartsFail paths path question harts failure
  failed_on hart rest answers are _ lacks_room = no_room
  failed_on hart rest answers are _ (fails_alone one failure is fails) = on_hart answers hart rest one failure are is fails

  -- none is left
  pub all_answered : (rest : List HartName) (answers : List HartAnswer) → length rest ≡ 0
      → AreAnswered paths path question harts (names_of rest) answers
      → AreAnswered paths path question harts [] answers
  all_answered [] answers none are = are
  all_answered (hart ∷ more) answers none are = absurd (omega (arith, none))

none_for : (takes : Bool) (names : Option (List Named)) → names ≡ None → (if takes then names else None) ≡ None
none_for true names is = is
none_for false names is = refl

-- rows about one script are as they are where no names are given
pub alone : (question : Question) (names : Option AddressNames) (rows : List RowValue) → is_some names ≡ false
    → map (whole None (names_for question (given_names names))) rows ≡ rows
alone question None rows is =
    ap (λ (names : Option (List Named)). map (whole None names) rows) (none_for (takes_names question) None refl)
    ∙ map-id rows
alone question (Some names) rows is = absurd cc
