-- Views of the register file after the publications asked for.
use Rattle.std.specs.Prelude.{◌≡◌, ℕ, List, Option}
use Rattle.pmp_text.specs.declared.moments.When.{When}
use Rattle.pmp_text.specs.Cells.{RowValue}
use Rattle.pmp_text.specs.Contents.{ScriptContents}
use Rattle.pmp_text.specs.Dumps.{dump_text}
use Rattle.pmp_text.specs.GivenBack.{GivesBack}
use Rattle.pmp_text.specs.MetNames.{Named}
use Rattle.pmp_text.specs.Picture.{IsPicture}
use Rattle.pmp_text.specs.Reports.{file_of_script}
use Rattle.pmp_text.specs.RunRows.{AreRunRows}
use Rattle.pmp_audit.specs.declared.view.View.{View}
use Rattle.pmp_audit.specs.declared.view.View.TheVariants.{Registers, Script, Picture}
use Rattle.pmp_audit.specs.declared.view.Listing.{Listing}
use Rattle.pmp_audit.specs.declared.view.Listing.TheVariants.{Runs, Entries}
use Rattle.pmp_audit.specs.AskedFile.{SaysOfScript}
use Rattle.pmp_audit.specs.EntryList.{IsEntryList}

-- these rows are listed of the file after `done` publications
abbrev pub AreListed : Listing → ScriptContents → (done : ℕ) → (rows : List RowValue) → Type 0
AreListed Runs script done rows = AreRunRows (file_of_script script done) rows
AreListed Entries script done rows = IsEntryList script done rows

-- the text is this view of the file after `done` publications; a picture has names, where these are given
abbrev pub IsViewText : View → Option (List Named) → ScriptContents → (done : ℕ) → (text : List ℕ) → Type 0
IsViewText Registers names script done text = text ≡ dump_text (file_of_script script done)
IsViewText Script names script done text = GivesBack (file_of_script script done) text
IsViewText Picture names script done text = IsPicture (file_of_script script done) done names text

-- it is after as many as are asked for
abbrev pub ListingSays : Listing → (script : List ℕ) → (after : Option When) → Unit {0} → (rows : List RowValue) → Type 0
ListingSays listing script after _ rows = SaysOfScript (AreListed listing) script after rows

abbrev pub ViewSays : View → Option (List Named) → (script : List ℕ) → (after : Option When) → Unit {0}
    → (text : List ℕ) → Type 0
ViewSays view names script after _ text = SaysOfScript (IsViewText view names) script after text
