-- A map's tables: where its runs begin, and their answers.
use Rattle.std.specs.Prelude.{◌≡◌, ℕ, ◌+◌, ◌<◌, ◌≤◌, List, length, slice_index}
use Rattle.pmp_core.specs.RegisterFile.{IsLegal, RegisterFile}
use Rattle.pmp_map.specs.declared.cuts.Cut.{Cut}
use Rattle.pmp_map.specs.declared.run.Run.{Run}
use Rattle.pmp_map.specs.declared.run.TheConstants.{RUNS}
use Rattle.pmp_map.specs.declared.search.TheConstants.{PLACES}
use Rattle.pmp_core.specs.Decision.{IsOwner}
use Rattle.pmp_map.specs.Painting.{AreUp, IsApart, start_of}
use Rattle.pmp_map.specs.Runs.{map_run, run_at, AreRuns, AreRunsTo}
use Rattle.pmp_map.specs.Search.{AreStarts, IsWithin, IsBetween}
use Rattle.pmp_map.specs.declared.tables.Tables.{Tables}
use Rattle.pmp_map.specs.Rows.{IsRow, row_at}

-- each run has the row of its owner
abbrev pub AreRows : RegisterFile → List Run → List (List ℕ) → Type 0
AreRows file runs rows = (k : ℕ) → k < length runs → IsRow file (map_run runs k).owner (row_at rows k)

-- the first places have the runs of the bytes below these rising cuts, with their owners' rows
pub record IsSweptTo (file : RegisterFile) (starts : List ℕ) (rows : List (List ℕ)) (cuts : List Cut) (place : ℕ)
    : Type 0 where
  pub up : AreUp (IsOwner file) cuts
  pub list : List Run
  pub runs_are : AreRunsTo (start_of cuts) (IsOwner file) list
  pub apart : (k : ℕ) → k + 1 ≡ length list → IsApart (run_at (start_of cuts) list k).owner cuts
  pub count : place ≡ length list
  pub room : place + length cuts ≤ RUNS
  pub starts_are : (k : ℕ) → k < place → slice_index starts k ≡ (run_at (start_of cuts) list k).first
  pub rows_are : (k : ℕ) → k < place → IsRow file (run_at (start_of cuts) list k).owner (row_at rows k)
  pub long : length starts ≡ PLACES
  pub wide : length rows ≡ PLACES

-- a list of runs ties the tables to the register file
pub record AreTables (file : RegisterFile) (tables : Tables) : Type 0 where
  pub list : List Run
  pub legal : IsLegal file
  pub runs_are : AreRuns file list
  pub few : length list ≤ RUNS
  pub count : tables.runs ≡ length list
  pub starts_are : AreStarts list tables.starts
  pub rows_are : AreRows file list tables.rows

-- the place is the byte's, as a search finds it
abbrev pub IsFound : Tables → (byte place : ℕ) → Type 0
IsFound tables byte place = IsWithin tables.starts tables.runs byte → IsBetween tables.starts byte place 1

-- the tables are the register file's, and the list has its runs
pub record IsMapOf (file : RegisterFile) (tables : Tables) (runs : List Run) : Type 0 where
  pub tables_are : AreTables file tables
  pub runs_are : AreRuns file runs
