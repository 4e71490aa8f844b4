-- What contracts see of a script.
use Rattle.std.specs.Prelude.{ℕ, List, Option}
use Rattle.pmp_core.specs.declared.event.Event.{Event}
use Rattle.pmp_core.specs.declared.size.Size.{Size}
use Rattle.pmp_core.specs.RegisterFile.{RegisterFile}
use Rattle.pmp_text.specs.declared.expectation.Expectation.{Expectation}
use Rattle.pmp_text.specs.declared.mark.Mark.{Mark}

-- its publications, each a list of events, and the line numbers of these
pub record Publications : Type 0 where
  pub batches : List (List Event)
  pub lines : List (List ℕ)

-- the size of its unit, the register file before the first event, its publications, the lines of their events, what it
-- expects of registers, and the moments that it names, if its version has any
pub record ScriptContents : Type 0 where
  pub size : Size
  pub start : RegisterFile
  pub batches : List (List Event)
  pub lines : List (List ℕ)
  pub expectations : List Expectation
  pub marks : Option (List Mark)
