-- Tables of the runs' starts, and a byte's place in them.
use Rattle.std.specs.Prelude.{◌≡◌, ℕ, ◌+◌, ◌-◌, ◌<◌, ◌≤◌, List, slice_index}
use Rattle.pmp_map.specs.declared.run.Run.{Run}
use Rattle.pmp_map.specs.declared.search.TheConstants.{PLACES, SHORT, FEW}
use Rattle.pmp_map.specs.Runs.{map_run}

-- where each run begins; past the last, the end of all bytes
abbrev pub AreStarts : List Run → List ℕ → Type 0
AreStarts runs starts = (k : ℕ) → k < PLACES → slice_index starts k ≡ (map_run runs k).first

-- no start is below one before it
abbrev pub IsRising : List ℕ → Type 0
IsRising starts = (i j : ℕ) → i ≤ j → j < PLACES → slice_index starts i ≤ slice_index starts j

-- the byte is at or above the start at `low`, and below the one at `low + width`
abbrev pub IsBetween : (starts : List ℕ) (byte low width : ℕ) → Type 0
IsBetween starts byte low width = (slice_index starts low ≤ byte) × (byte < slice_index starts (low + width))

-- the starts rise, and the byte is between the first and the last of those searched for this many runs
pub record IsWithin (starts : List ℕ) (runs byte : ℕ) : Type 0 where
  pub rising : IsRising starts
  pub whole : IsBetween starts byte 0 (PLACES - 1)
  pub short : runs ≤ SHORT → byte < slice_index starts SHORT
  pub few : runs ≤ FEW → byte < slice_index starts FEW
