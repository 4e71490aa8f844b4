-- What is stored of what is known.
use Rattle.std.specs.Prelude.{◌≡◌, ℕ, length}
use Rattle.logbook.specs.Pages.{Book}
use Rattle.pmp_core.specs.RegisterFile.{RegisterFile}
use Rattle.pmp_share.specs.declared.knowledge.Known.{Known}
use Rattle.pmp_share.specs.Batches.{Batches, event_count}
use Rattle.pmp_share.specs.Known.{file_of}

-- the file after the batches, the numbers of events and of batches, and the history up to them
pub record IsDigest (known : Known) (file : RegisterFile) (events count : ℕ) (book : Book) (log : Batches) : Type 0 where
  pub replayed : file ≡ file_of known
  pub events_is : events ≡ event_count known.list
  pub count_is : count ≡ length known.list
  pub book_is : book ≡ known.unit.book
  pub log_is : log ≡ known.list
