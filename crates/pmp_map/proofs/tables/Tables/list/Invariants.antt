use Rattle.std.proofs.Common.{◌≡◌, length, take}
use Rattle.pmp_core.specs.RegisterFile.{RegisterFile}
use Rattle.pmp_map.specs.Tables.{AreTables}
use Rattle.pmp_map.proofs.tables.Tables.list.Given as goal

abbrev pub invariant-loop-place : goal.invariant-loop-place
invariant-loop-place l = record {
  count : length l.runs.items ≡ l.place;
  listed : (file : RegisterFile) (are : AreTables file l.self) → l.runs.items ≡ take l.place are.list;
}
