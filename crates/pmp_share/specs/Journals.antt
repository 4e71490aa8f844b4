-- A journal: events, and for each batch the number of events once it was added.
use Rattle.std.specs.Prelude.{◌≡◌, ℕ, ◌+◌, ◌-◌, List, [], ◌∷◌, length, take, drop}
use Rattle.pmp_core.specs.declared.event.Event.{Event}
use Rattle.pmp_core.specs.Histories.{joined}
use Rattle.pmp_share.specs.Batches.{Batches}

-- where the batches end, after this many events
unfoldable pub ends_from : ℕ → Batches → List ℕ
ends_from before [] = []
ends_from before (batch ∷ batches) = (before + length batch) ∷ ends_from (before + length batch) batches

-- the number of events after each batch
abbrev pub ends_of : Batches → List ℕ
ends_of batches = ends_from 0 batches

-- the events after the first `before`, cut at these ends
unfoldable pub cut_from : ℕ → List ℕ → List Event → Batches
cut_from before [] events = []
cut_from before (end ∷ ends) events = take (end - before) events ∷ cut_from end ends (drop (end - before) events)

-- the batches that a journal encodes
abbrev pub batches_of : List ℕ → List Event → Batches
batches_of ends events = cut_from 0 ends events

-- the ends cut all the events
pub record IsCut (ends : List ℕ) (events : List Event) : Type 0 where
  pub whole : joined (batches_of ends events) ≡ events
  pub cut : ends_of (batches_of ends events) ≡ ends
