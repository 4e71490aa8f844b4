-- The harts of a folder compared with its first.
use Rattle.std.specs.Prelude.{◌≡◌, ℕ, List, [], ◌∷◌, Bool, true, false, Option, None, Some}
use Rattle.clap.specs.Words.{Text}
use Rattle.pmp_text.specs.Cells.{RowValue}
use Rattle.pmp_text.specs.MetNames.{Named}
use Rattle.pmp_text.specs.declared.refusal.Refusal.{Refusal}
use Rattle.pmp_text.specs.declared.refusal.Refusal.TheVariants.{BadFolder, Memory}
use Rattle.pmp_text.specs.declared.script.reader.TheConstants.{MAX_HEADED_SCRIPT}
use Rattle.pmp_names.specs.HartLists.{names_of}
use Rattle.pmp_names.specs.HartNames.{HasNoHarts}
use Rattle.pmp_tool.specs.declared.failure.Failure.{Failure}
use Rattle.pmp_tool.specs.declared.harts.Harts.{Harts}
use Rattle.pmp_tool.specs.declared.outcome.Outcome.{Outcome}
use Rattle.pmp_tool.specs.declared.request.Question.{Question}
use Rattle.pmp_tool.specs.Commands.{Diff, Query, query_of}
use Rattle.pmp_tool.specs.Failures.{refused, unread}
use Rattle.pmp_tool.specs.Harts.{HartsFail, HartsSay, IsOfHarts, path_on}
use Rattle.pmp_tool.specs.Inputs.{CantBeOpened, CantBeRead, IsFolder, Paths}
use Rattle.pmp_text.specs.declared.fault.Source.TheVariants.{Script}

-- a comparison of all bytes with each hart's script of a folder
abbrev pub compared_with : (folder : Text) (has_locks : Bool) → Query
compared_with folder has_locks = Diff folder None None (record { only = None; has_locks = has_locks })

module _ (paths : Paths) (folder : Text) (has_locks : Bool) where
  -- the folder's harts, the first of them, and what is asked of each with that
  pub record IsComparison (first : Text) (one : Question) (harts : Harts) : Type 0 where
    pub rest : List Text
    pub are : names_of harts.names.items ≡ first ∷ rest
    pub found : IsOfHarts (paths.folders folder) true (names_of harts.names.items)
    pub asks : query_of one ≡ compared_with folder has_locks
    pub is_old : harts.old ≡ false
    pub is_new : harts.new ≡ true

  -- each hart was compared with the first
  pub record ComparisonSays (names : Option (List Named)) (outcome : Outcome) (rows : List RowValue) : Type 0 where
    pub first : Text
    pub one : Question
    pub harts : Harts
    pub is : IsComparison first one harts
    pub says : HartsSay paths (path_on true folder first) one harts names outcome rows

  -- why they weren't: no folder is there, or it has no harts, or a hart has no answer
  pub data ComparisonFails : Failure → Type 0 where
    unlisted : (fault : Refusal) → CantBeOpened fault → ComparisonFails (unread fault Script)
    unread_file : (fault : Refusal) → IsFolder (paths.folders folder) None
        → CantBeRead MAX_HEADED_SCRIPT (paths.scripts folder) fault → ComparisonFails (refused fault)
    no_folder : IsFolder (paths.folders folder) None → ComparisonFails (refused BadFolder)
    unfit : (fault : Refusal) (files : List Text) → IsFolder (paths.folders folder) (Some files) → HasNoHarts files fault
        → ComparisonFails (unread fault Script)
    no_room_for_path : ComparisonFails (refused Memory)
    uncompared : (first : Text) (one : Question) (harts : Harts) (failure : Failure) → IsComparison first one harts
        → HartsFail paths (path_on true folder first) one harts failure → ComparisonFails failure
