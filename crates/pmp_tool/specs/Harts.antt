-- The harts that a question is asked of, and their answers.
use Rattle.std.specs.Prelude.{◌≡◌, ◌⊎◌, ℕ, List, [], ◌∷◌, ◌++◌, map, fold, codes, Bool, true, false, ◌||◌, ◌==◌}
use Rattle.std.specs.Prelude.{Option, Some, None, if◌then◌else◌, All}
use Rattle.std.specs.List.{flat_map}
use Rattle.std.specs.Str.{bytes_eq}
use Rattle.clap.specs.Words.{Text}
use Rattle.pmp_text.specs.Cells.{RowValue}
use Rattle.pmp_text.specs.MetNames.{Named}
use Rattle.pmp_text.specs.declared.refusal.Refusal.{Refusal}
use Rattle.pmp_text.specs.declared.refusal.Refusal.TheVariants.{BadFolder, BadWord, Memory}
use Rattle.pmp_names.specs.declared.hart_name.HartName.{HartName}
use Rattle.pmp_names.specs.HartLists.{names_of}
use Rattle.pmp_names.specs.HartNames.{AreHarts, HasNoHarts}
use Rattle.pmp_names.specs.WholeRows.{whole}
use Rattle.pmp_tool.specs.declared.failure.Failure.{Failure}
use Rattle.pmp_tool.specs.declared.harts.Harts.{Harts}
use Rattle.pmp_tool.specs.declared.outcome.Outcome.{Outcome}
use Rattle.pmp_tool.specs.declared.outcome.Outcome.TheVariants.{Listed}
use Rattle.pmp_tool.specs.declared.request.Question.{Question}
use Rattle.pmp_tool.specs.declared.request.Question.TheVariants as question
use Rattle.pmp_tool.specs.Commands.{Diff, Query, query_of}
use Rattle.pmp_tool.specs.Failures.{of_hart, refused, unread}
use Rattle.pmp_tool.specs.Inputs.{CantBeOpened, Folders, IsFolder, Paths}
use Rattle.pmp_tool.specs.Outcomes.{outcome_status}
use Rattle.pmp_tool.specs.Questions.{PathFails, PathSays}
use Rattle.pmp_text.specs.declared.fault.Source.{Source}

-- ---- the harts that a question is for

-- the new one of two scripts
abbrev pub new_script : Question → Option Text
new_script (question.Diff diff) = Some diff.new.now
new_script _ = None

-- the second input
abbrev pub second_input : Question → Option Text
second_input (question.Audit audit) = Some audit.trace.now
second_input (question.Policy policy) = Some policy.path.now
second_input question = new_script question

-- standard input is one of the inputs
abbrev pub reads_stdin : (path : Text) → Question → Bool
reads_stdin path question = bytes_eq path (codes "stdin")
    || elim (second_input question) [ None ↦ false | Some path ↦ bytes_eq path (codes "stdin") ]

-- a path is a folder with these harts, or no folder
abbrev pub IsOfHarts : (known : Option (Option (List Text))) → (is_folder : Bool) → (harts : List Text) → Type 0
IsOfHarts known false harts = IsFolder known None
IsOfHarts known true harts = (files : List Text) × IsFolder known (Some files) × AreHarts files harts

abbrev pub IsNewOfHarts : Folders → (new : Option Text) → (is_folder : Bool) → (harts : List Text) → Type 0
IsNewOfHarts folders None is_folder harts = is_folder ≡ false
IsNewOfHarts folders (Some path) is_folder harts = IsOfHarts (folders path) is_folder harts

module _ (folders : Folders) (path : Text) (question : Question) where
  -- which scripts of a question are folders, with these harts
  pub record AreAt (is_old is_new : Bool) (harts : List Text) : Type 0 where
    pub old : IsOfHarts (folders path) is_old harts
    pub new : IsNewOfHarts folders (new_script question) is_new harts

  -- one is, and no input is standard input, which can't be read for each hart
  pub record IsOfSome (harts : Harts) : Type 0 where
    pub are : AreAt harts.old harts.new (names_of harts.names.items)
    pub some : harts.old || harts.new ≡ true
    pub rereads : reads_stdin path question ≡ false

  abbrev pub AreFound : Option Harts → Type 0
  AreFound None = AreAt false false []
  AreFound (Some harts) = IsOfSome harts

  -- why harts aren't found: a folder can't be read or has none, two have different harts, or stdin is an input
  pub data AreUnfound : Failure → Type 0 where
    unread_folder : (fault : Refusal) (source : Source) → CantBeOpened fault → AreUnfound (unread fault source)
    no_harts : (fault : Refusal) (source : Source) (at : Text) (files : List Text)
        → IsFolder (folders at) (Some files) → HasNoHarts files fault → AreUnfound (unread fault source)
    other_harts : (old new : List Text) → IsOfHarts (folders path) true old
        → IsNewOfHarts folders (new_script question) true new → (old ≡ new → ⊥) → AreUnfound (refused BadFolder)
    one_reading : reads_stdin path question ≡ true → AreUnfound (refused BadWord)

-- ---- what is asked of each hart

abbrev pub path_on : (is_folder : Bool) (path name : Text) → Text
path_on true path name = path ++ (codes "/" ++ name)
path_on false path name = path

-- the new script is the hart's
abbrev pub query_on : (is_folder : Bool) (name : Text) → Query → Query
query_on is_folder name (Diff path old_after new_after only) = Diff (path_on is_folder path name) old_after new_after only
query_on is_folder name query = query

-- a hart's answer: its outcome, and the rows
pub record HartAnswer : Type 0 where
  pub name : Text
  pub outcome : Outcome
  pub rows : List RowValue

-- all rows, each behind its hart's name, and before the names of its bytes
abbrev pub all_rows : Option (List Named) → List HartAnswer → List RowValue
all_rows names answers = flat_map (λ answer. map (whole (Some answer.name) names) answer.rows) answers

-- a verdict holds if it holds on each hart: the first outcome whose status isn't 0, or else the last
abbrev pub worse : (first second : Outcome) → Outcome
worse first second = if outcome_status first == 0 then second else first

abbrev pub worst : List HartAnswer → Outcome
worst answers = fold (λ outcome answer. worse outcome answer.outcome) Listed answers

module _ (paths : Paths) (path : Text) (question : Question) (harts : Harts) where
  -- the question about one hart's script, and its rows
  pub record IsAnswered (answer : HartAnswer) : Type 0 where
    pub one : Question
    pub is_on : query_of one ≡ query_on harts.new answer.name (query_of question)
    pub says : PathSays paths (path_on harts.old path answer.name) one answer.outcome answer.rows

  -- the harts before `rest` were answered
  pub record AreAnswered (rest : List Text) (answers : List HartAnswer) : Type 0 where
    pub each : All IsAnswered answers
    pub names : names_of harts.names.items ≡ map (λ answer. answer.name) answers ++ rest

  -- all of them were
  pub record HartsSay (names : Option (List Named)) (outcome : Outcome) (rows : List RowValue) : Type 0 where
    pub answers : List HartAnswer
    pub are : AreAnswered [] answers
    pub rows_are : rows ≡ all_rows names answers
    pub is : outcome ≡ worst answers

  -- a hart has no answer, behind those that have one, or memory ran out
  pub data HartsFail : Failure → Type 0 where
    on_hart : (answers : List HartAnswer) (hart : HartName) (rest : List Text) (one : Question) (failure : Failure)
        → AreAnswered (hart.name.bytes ∷ rest) answers
        → query_of one ≡ query_on harts.new hart.name.bytes (query_of question)
        → (failure ≡ refused Memory) ⊎ PathFails paths (path_on harts.old path hart.name.bytes) one failure
        → HartsFail (of_hart hart.name failure)
    no_room : HartsFail (refused Memory)
