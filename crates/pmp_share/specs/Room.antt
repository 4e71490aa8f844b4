-- How much one unit holds.
use Rattle.std.specs.Prelude.{◌+◌, nat_le, Bool, ◌&&◌, List, length}
use Rattle.pmp_core.specs.declared.event.Event.{Event}
use Rattle.pmp_share.specs.declared.room.TheConstants.{HISTORY_LIMIT}
use Rattle.pmp_share.specs.Batches.{Batches, event_count}

-- one more batch exceeds neither limit, of events and of batches, published and pending together
abbrev pub has_room : (published pending : Batches) → List Event → Bool
has_room published pending batch =
    nat_le (event_count published + event_count pending + length batch) HISTORY_LIMIT
    && nat_le (length published + length pending + 1) HISTORY_LIMIT
