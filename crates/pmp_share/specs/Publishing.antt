-- A publisher's state.
use Rattle.std.specs.Prelude.{◌≡◌, ℕ, ◌+◌, ◌<◌, ◌≤◌, true, ◌++◌, length, take}
use Rattle.pmp_share.specs.Batches.{Batches}
use Rattle.pmp_share.specs.WriterStates.{WriterProgress}

-- the first pending batches are handed over, and can't be withdrawn
pub record IsPublisher (state : WriterProgress) (pending : Batches) (handed tried : ℕ) : Type 0 where
  pub within : handed ≤ tried
  pub tried_within : tried ≤ length pending
  pub handed_over : state.handed ≡ state.shown ++ take handed pending
  pub ahead : state.ahead ≡ true → (handed < tried) × (state.noted ≡ state.shown ++ take (handed + 1) pending)
