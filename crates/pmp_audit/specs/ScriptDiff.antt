-- Output about two scripts' register files, and when it is refused.
use Rattle.std.specs.Prelude.{◌⊎◌, ◌≡◌, ℕ, ◌+◌, ◌≤◌, Bool, true, false, List, [], ◌++◌, length, Option, Ok}
use Rattle.pmp_core.specs.RegisterFile.{RegisterFile}
use Rattle.pmp_map.specs.declared.compared.Aspect.{Aspect}
use Rattle.pmp_map.specs.declared.compared.Aspect.TheVariants.{Rights, Locks}
use Rattle.pmp_map.specs.declared.compared_run.ComparedRun.{ComparedRun}
use Rattle.pmp_map.specs.ComparedRuns.{AreComparedRuns}
use Rattle.pmp_text.specs.declared.lines.changes.Only.{Only}
use Rattle.pmp_text.specs.declared.moments.When.{When}
use Rattle.pmp_text.specs.Changes.{change_count, change_rows}
use Rattle.pmp_text.specs.Cells.{RowValue}
use Rattle.pmp_text.specs.Contents.{ScriptContents}
use Rattle.pmp_text.specs.Reports.{file_of_script}
use Rattle.pmp_text.specs.Scripts.{script_meaning}
use Rattle.pmp_text.specs.declared.fault.Fault.{Fault}
use Rattle.pmp_audit.specs.declared.script_diff.AskedChanges.{AskedChanges}
use Rattle.pmp_audit.specs.AskedFile.{FileRefuses, IsAsked}
use Rattle.pmp_text.specs.declared.fault.Source.TheVariants.{New, Old}
use Rattle.pmp_audit.specs.Sides.{OnSide}

-- the script has these contents, and the publications asked for, which give the file
pub record GivesFile (script : List ℕ) (after : Option When) (file : RegisterFile) : Type 0 where
  pub contents : ScriptContents
  pub script_means : script_meaning script ≡ Ok contents
  pub done : ℕ
  pub asked : IsAsked after contents done
  pub within : done ≤ length contents.batches
  pub file_is : file ≡ file_of_script contents done

-- there is a row for each longest range of bytes where the files differ in this aspect as asked for, and they are
-- counted
pub record ChangesSay (aspect : Aspect) (old new : RegisterFile) (only : Option Only) (count : ℕ) (rows : List RowValue)
    : Type 0 where
  pub runs : List ComparedRun
  pub runs_are : AreComparedRuns aspect old new runs
  pub rows_are : rows ≡ change_rows only runs
  pub counted : count ≡ change_count only runs

-- the rows of locks, or none if they aren't asked for
abbrev pub LocksSay : (old new : RegisterFile) → Option Only → (has_locks : Bool) → (count : ℕ) → (rows : List RowValue)
    → Type 0
LocksSay old new only true count rows = ChangesSay Locks old new only count rows
LocksSay old new only false count rows = (count ≡ 0) × (rows ≡ [])

-- the rows of rights, then those of locks
pub record FilesSay (old new : RegisterFile) (asked : AskedChanges) (count : ℕ) (rows : List RowValue) : Type 0 where
  pub rights_count : ℕ
  pub rights_rows : List RowValue
  pub rights : ChangesSay Rights old new asked.only rights_count rights_rows
  pub locks_count : ℕ
  pub locks_rows : List RowValue
  pub locks : LocksSay old new asked.only asked.has_locks locks_count locks_rows
  pub rows_are : rows ≡ rights_rows ++ locks_rows
  pub counted : count ≡ rights_count + locks_count

-- both scripts give a file, and the rows are the differences asked for
pub record DiffSays (old : List ℕ) (old_after : Option When) (new : List ℕ) (new_after : Option When)
    (asked : AskedChanges) (count : ℕ) (rows : List RowValue) : Type 0 where
  pub old_file : RegisterFile
  pub new_file : RegisterFile
  pub old_gives : GivesFile old old_after old_file
  pub new_gives : GivesFile new new_after new_file
  pub changes : FilesSay old_file new_file asked count rows

-- the old script is refused; or it gives a file, and the new one is refused
abbrev pub DiffRefuses : (old : List ℕ) → (old_after : Option When) → (new : List ℕ) → (new_after : Option When)
    → Fault → Type 0
DiffRefuses old old_after new new_after fault = OnSide Old (FileRefuses old old_after) fault
    ⊎ (((file : RegisterFile) × GivesFile old old_after file) × OnSide New (FileRefuses new new_after) fault)
