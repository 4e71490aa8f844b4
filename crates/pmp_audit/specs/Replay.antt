-- The position of a script's replay.
use Rattle.std.specs.Prelude.{ℕ}
use Rattle.pmp_core.specs.RegisterFile.{RegisterFile}
use Rattle.pmp_text.specs.Contents.{ScriptContents}
use Rattle.pmp_text.specs.Reports.{file_of_script}

-- a script, and how many of its publications are done
pub record Position : Type 0 where
  pub script : ScriptContents
  pub done : ℕ

-- the register file after these
abbrev pub file_at : Position → RegisterFile
file_at position = file_of_script position.script position.done
