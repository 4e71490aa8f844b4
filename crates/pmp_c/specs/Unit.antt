-- What a unit's numbers encode.
use Rattle.std.specs.Prelude.{◌≡◌, ◌≢◌, ℕ, ◌+◌, ◌*◌, ◌<◌}
use Rattle.pmp_core.specs.RegisterFile.{RegisterFile}
use Rattle.pmp_core.specs.SavedRegisters.{restored_file, saved_registers}
use Rattle.pmp_c.specs.declared.unit.Unit.{Unit}
use Rattle.pmp_map.specs.Tables.{AreTables}

-- the register file of the registers, whatever the numbers are
abbrev pub file_of_unit : Unit → RegisterFile
file_of_unit unit = restored_file unit.registers

-- the map, if it is built, is that of the registers
abbrev pub IsUnit : Unit → Type 0
IsUnit unit = 0 < unit.map.runs → AreTables (file_of_unit unit) unit.map

-- the registers are the file's as saved, and the map isn't built
pub record IsSetTo (file : RegisterFile) (unit : Unit) : Type 0 where
  pub stands : file_of_unit unit ≡ file
  pub registers : unit.registers ≡ saved_registers file
  pub unbuilt : unit.map.runs ≡ 0
  pub order : IsUnit unit

-- the map is built, over the same registers; if it was before, nothing changes
pub record IsBuilt (old new : Unit) : Type 0 where
  pub registers : new.registers ≡ old.registers
  pub order : IsUnit old → IsUnit new
  pub built : 0 < new.map.runs
  pub kept : 0 < old.map.runs → new ≡ old

-- the registers encode another file, and the map isn't built
pub record IsChanged (old new : Unit) : Type 0 where
  pub file : file_of_unit new ≢ file_of_unit old
  pub unbuilt : new.map.runs ≡ 0

-- a unit's size in bytes: the registers, where runs begin, the number of runs, and a row of 16 for each
abbrev pub unit_size : ℕ
unit_size = 592 + 8 * 217 + 8 + 32 * 217

-- 10,000 times the major number, 100 times the minor one, and the patch
abbrev pub version : ℕ
version = 10000 * 0 + 100 * 2 + 0
