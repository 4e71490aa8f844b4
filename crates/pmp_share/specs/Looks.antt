-- What a checker knows, from one look to the next.
use Rattle.std.specs.Prelude.{◌≡◌, ℕ, ◌==◌, nat_lt, nat_le, Bool, ◌&&◌, ◌||◌, if◌then◌else◌, length}
use Rattle.pmp_share.specs.declared.knowledge.Known.{Known}
use Rattle.pmp_share.specs.Batches.{Batches, StartsWith, event_count}

-- the second has more events, or as many and no fewer batches
abbrev pub is_as_late : Batches → Batches → Bool
is_as_late one other =
    nat_lt (event_count one) (event_count other)
    || (event_count one == event_count other && nat_le (length one) (length other))

abbrev pub later_of : Batches → Batches → Batches
later_of one other = if is_as_late one other then other else one

-- a look: batches of the same unit with all that was known as a prefix, and the number of their events
pub record IsLook (old new : Known) (events : ℕ) : Type 0 where
  pub unit : new.unit ≡ old.unit
  pub begins : StartsWith new.list old.list
  pub count : events ≡ event_count new.list
