-- What contracts see of a publisher. `unit` is the same for all that come from one start.
use Rattle.std.specs.Prelude.{ℕ}
use Rattle.logbook.specs.Pages.{Book}
use Rattle.pmp_core.specs.RegisterFile.{RegisterFile}
use Rattle.pmp_share.specs.Batches.{Batches}

-- the unit: the book that keeps its history, and the register file that it started from
pub record UnitId : Type 0 where
  pub book : Book
  pub base : RegisterFile

abbrev pub unit_with : Book → RegisterFile → UnitId
unit_with book base = record { book = book; base = base }

-- the published batches, the pending ones, and how many of these the last publication left pending
pub record PublisherToken : Type 0 where
  pub unit : UnitId
  pub published : Batches
  pub pending : Batches
  pub tried : ℕ
