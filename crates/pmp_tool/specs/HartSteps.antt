-- How a question is answered for one of several harts, for private contracts.
use Rattle.std.specs.Prelude.{◌≡◌, ◌⊎◌, ℕ, List, ◌++◌, map, Option, Some}
use Rattle.clap.specs.Words.{Text}
use Rattle.pmp_text.specs.Cells.{RowValue}
use Rattle.pmp_text.specs.MetNames.{Named}
use Rattle.pmp_text.specs.declared.refusal.Refusal.TheVariants.{Memory}
use Rattle.pmp_names.specs.WholeRows.{whole}
use Rattle.pmp_names.specs.declared.hart_name.HartName.{HartName}
use Rattle.pmp_tool.specs.declared.failure.Failure.{Failure}
use Rattle.pmp_tool.specs.declared.harts.Harts.{Harts}
use Rattle.pmp_tool.specs.declared.outcome.Outcome.{Outcome}
use Rattle.pmp_tool.specs.declared.request.Question.{Question}
use Rattle.pmp_tool.specs.Commands.{Diff, Query, query_of}
use Rattle.pmp_tool.specs.Failures.{of_hart, refused}
use Rattle.pmp_tool.specs.Harts.{HartAnswer, IsAnswered, path_on, query_on}
use Rattle.pmp_tool.specs.Inputs.{Paths}
use Rattle.pmp_tool.specs.Questions.{PathFails, names_for}

-- the new script is at this path, if there is one
abbrev pub with_new : (path : Text) → Query → Query
with_new path (Diff new old_after new_after changes) = Diff path old_after new_after changes
with_new path query = query

module _ (paths : Paths) (path : Text) (question : Question) (harts : Harts) where
  -- one hart was answered, and its rows were appended, whole
  pub record IsAnsweredOn (names : Option (List Named)) (name : Text) (before after : List RowValue) (outcome : Outcome)
      : Type 0 where
    pub answer : HartAnswer
    pub is : IsAnswered paths path question harts answer
    pub name_is : answer.name ≡ name
    pub outcome_is : answer.outcome ≡ outcome
    pub rows : after ≡ before ++ map (whole (Some name) (names_for question names)) answer.rows

  pub data FailsOn (hart : HartName) : Failure → Type 0 where
    fails_alone : (one : Question) (failure : Failure)
        → query_of one ≡ query_on harts.new hart.name.bytes (query_of question)
        → (failure ≡ refused Memory) ⊎ PathFails paths (path_on harts.old path hart.name.bytes) one failure
        → FailsOn hart (of_hart hart.name failure)
    lacks_room : FailsOn hart (refused Memory)
