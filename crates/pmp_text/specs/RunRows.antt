-- The rows of a register file's runs.
use Rattle.std.specs.Prelude.{◌≡◌, ℕ, List, [], ◌∷◌, Option, Some, None, codes, map}
use Rattle.pmp_core.specs.declared.access.Mode.TheVariants.{M, U}
use Rattle.pmp_core.specs.RegisterFile.{RegisterFile}
use Rattle.pmp_core.specs.Rights.{Rights}
use Rattle.pmp_map.specs.declared.run.Run.{Run}
use Rattle.pmp_map.specs.Answers.{owned_rights}
use Rattle.pmp_map.specs.Runs.{AreRuns}
use Rattle.pmp_text.specs.declared.lines.row_kind.RowKind.TheVariants as kind
use Rattle.pmp_text.specs.Cells.{CellValue, Number, Address, Word, RowValue}
use Rattle.pmp_text.specs.RightsTexts.{rights_text}

abbrev pub rights_value : Rights → CellValue
rights_value rights = Word (rights_text rights)

-- the owner's number, or a dash
abbrev pub owner_value : Option ℕ → CellValue
owner_value None = Word (codes "-")
owner_value (Some entry) = Number entry

-- the first and the last byte, the owner, and the rights of M-mode and of S-mode and U-mode
abbrev pub run_row : RegisterFile → Run → RowValue
run_row file run = record {
  kind = kind.Run;
  cells = Address run.first ∷ Address run.last ∷ owner_value run.owner
      ∷ rights_value (owned_rights file run.owner M) ∷ rights_value (owned_rights file run.owner U) ∷ [];
}

-- a row for each of the file's runs, of which there is only one list
pub record AreRunRows (file : RegisterFile) (rows : List RowValue) : Type 0 where
  pub runs : List Run
  pub runs_are : AreRuns file runs
  pub rows_are : rows ≡ map (run_row file) runs
