-- The causes of runs, read from their rows.
use Rattle.std.specs.Prelude.{◌≡◌, ℕ, ◌%◌, ◌<◌, ◌≤◌, List, slice_index}
use Rattle.pmp_map.specs.Rows.{row_at}

-- the number of run k's cause, which all answers of a row share
abbrev pub cause_at : List (List ℕ) → ℕ → ℕ
cause_at rows k = slice_index (row_at rows k) 0 % 1024

-- the least cause number from `first` up to but not including `end`; 512 if none is lower
pub record IsLeastCause (rows : List (List ℕ)) (first end least : ℕ) : Type 0 where
  pub each : (k : ℕ) → first ≤ k → k < end → least ≤ cause_at rows k
  pub one : least < 512 → (k : ℕ) × (first ≤ k) × (k < end) × (cause_at rows k ≡ least)
