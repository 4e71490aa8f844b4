-- What a list of entries contains.
use Rattle.std.specs.Prelude.{ℕ, List, take}
use Rattle.pmp_text.specs.declared.lines.since.Since.{Since}
use Rattle.pmp_text.specs.Cells.{RowValue}
use Rattle.pmp_text.specs.Contents.{ScriptContents}
use Rattle.pmp_text.specs.EntryRows.{AreEntryRows}
use Rattle.pmp_text.specs.Reports.{file_of_script}
use Rattle.pmp_audit.specs.Since.{AreSince}

-- a row for each entry of the file after `done` publications, with since when the entry is frozen and held
pub record IsEntryList (script : ScriptContents) (done : ℕ) (rows : List RowValue) : Type 0 where
  pub since : List Since
  pub since_are : AreSince script.start (take done script.batches) since
  pub rows_are : AreEntryRows (file_of_script script done) since rows
