-- The runs of a register file: adjacent bytes with one owner (Volume II, 3.7.1.3).
use Rattle.std.specs.Prelude.{◌≡◌, ◌≢◌, ℕ, ◌+◌, ◌-◌, ◌<◌, ◌≤◌, Option, None, IfSome, List, length, All}
use Rattle.std.specs.List.{slice_index_or}
use Rattle.pmp_core.specs.RegisterFile.{RegisterFile}
use Rattle.pmp_core.specs.declared.access.TheConstants.{ADDRESS_LIMIT}
use Rattle.pmp_core.specs.Decision.{IsOwner}
use Rattle.pmp_map.specs.declared.run.Run.{Run}

abbrev pub IsInRun : Run → ℕ → Type 0
IsInRun run byte = (run.first ≤ byte) × (byte ≤ run.last)

-- run k, or past the last, one that begins at `to`
abbrev pub run_at : (to : ℕ) → List Run → ℕ → Run
run_at to runs k = slice_index_or runs k (record { first = to; last = to; owner = None })

-- the runs of the bytes below `to`, with owners by Owns
pub record AreRunsTo (to : ℕ) (Owns : ℕ → Option ℕ → Type 0) (runs : List Run) : Type 0 where
  -- the first begins at byte 0
  pub begins : (run_at to runs 0).first ≡ 0
  -- none is empty
  pub proper : (k : ℕ) → k < length runs → (run_at to runs k).first ≤ (run_at to runs k).last
  -- each ends right before the next, and the last right before `to`
  pub gapless : (k : ℕ) → k < length runs → (run_at to runs k).last + 1 ≡ (run_at to runs (k + 1)).first
  -- a run's owner is the owner of each of its bytes
  pub owned : (k byte : ℕ) → k < length runs → IsInRun (run_at to runs k) byte → Owns byte (run_at to runs k).owner
  -- neighbours have different owners
  pub apart : (k : ℕ) → k + 1 < length runs → (run_at to runs k).owner ≢ (run_at to runs (k + 1)).owner

-- run k of all bytes, or past the last, one that begins at their end
abbrev pub map_run : List Run → ℕ → Run
map_run = run_at ADDRESS_LIMIT

-- the runs of all bytes
abbrev pub AreRuns : RegisterFile → List Run → Type 0
AreRuns file = AreRunsTo ADDRESS_LIMIT (IsOwner file)

-- every owner is below n
abbrev pub HasOwnersBelow : (n : ℕ) → List Run → Type 0
HasOwnersBelow n runs = All (λ run. IfSome run.owner (λ i. i < n)) runs

-- the longest run around this byte with one owner
pub record IsRunAround (file : RegisterFile) (byte : ℕ) (run : Run) : Type 0 where
  pub here : IsInRun run byte
  pub inside : run.last < ADDRESS_LIMIT
  pub owned : (other : ℕ) → IsInRun run other → IsOwner file other run.owner
  pub before : 0 < run.first → ¬ (IsOwner file (run.first - 1) run.owner)
  pub after : run.last + 1 < ADDRESS_LIMIT → ¬ (IsOwner file (run.last + 1) run.owner)
