-- Since when an entry is frozen, and since when it is held.
use Rattle.std.specs.Prelude.{◌≡◌, ℕ, ◌<◌, Bool, true, List, take, drop}
use Rattle.std.specs.List.{list_all, slice_index_or}
use Rattle.pmp_core.specs.declared.event.Event.{Event}
use Rattle.pmp_core.specs.RegisterFile.{RegisterFile, is_frozen, is_held}
use Rattle.pmp_core.specs.Decision.{IsLeast}
use Rattle.pmp_core.specs.Histories.{joined}
use Rattle.pmp_core.specs.Histories.{is_write}
use Rattle.pmp_text.specs.declared.lines.since.Since.{Since}
use Rattle.pmp_text.specs.EntryRows.{no_since}
use Rattle.pmp_text.specs.Reports.{file_behind}

-- from this file on, entry i is so after the first k batches, and the batches after those have no reset
pub record IsFrom (is_so : RegisterFile → ℕ → Bool) (start : RegisterFile) (batches : List (List Event)) (i k : ℕ) : Type 0 where
  pub after : is_so (file_behind start (take k batches)) i ≡ true
  pub writes : list_all is_write (joined (drop k batches)) ≡ true

-- the least such k, or none: since when the entry is frozen, and since when it is held
pub record IsSince (start : RegisterFile) (batches : List (List Event)) (i : ℕ) (since : Since) : Type 0 where
  pub frozen : IsLeast (IsFrom is_frozen start batches i) since.frozen
  pub held : IsLeast (IsFrom is_held start batches i) since.held

-- the list has this for each entry
abbrev pub AreSince : (start : RegisterFile) → List (List Event) → List Since → Type 0
AreSince start batches since = (i : ℕ) → i < start.profile.entries → IsSince start batches i (slice_index_or since i no_since)
