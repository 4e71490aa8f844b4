-- Laws of the definitions.
use Rattle.std.specs.Prelude.{◌≡◌, ◌*◌, ◌≤◌, ℕ, true, List, fold, drop}
use Rattle.std.specs.List.{list_all}
use Rattle.pmp_core.specs.declared.event.Event.{Event}
use Rattle.pmp_core.specs.RegisterFile.{RegisterFile, is_frozen}
use Rattle.pmp_core.specs.RegisterWrite.{step}
use Rattle.pmp_core.specs.Histories.{joined}
use Rattle.pmp_core.specs.LockLaw.{StaysFrozen}
use Rattle.pmp_core.specs.Histories.{is_write}
use Rattle.pmp_share.specs.declared.opening.TheConstants.{CHECKERS}
use Rattle.pmp_share.specs.declared.writer_state.TheConstants.{PLACES}
use Rattle.pmp_share.specs.Batches.{Batches, StartsWith, event_count, file_from}
use Rattle.pmp_share.specs.Journals.{ends_of, batches_of}

-- batches with a prefix of as many events have the same events as the prefix
abbrev pub SameEventsLaw : Type 0
SameEventsLaw = (batches front : Batches) → StartsWith batches front → event_count batches ≡ event_count front
    → joined batches ≡ joined front

-- the events of batches, cut at the batches' ends, are the batches
abbrev pub CutLaw : Type 0
CutLaw = (batches : Batches) → batches_of (ends_of batches) (joined batches) ≡ batches

-- the events of `batches` after as many as `front` has
abbrev pub further_events : Batches → Batches → List Event
further_events batches front = drop (event_count front) (joined batches)

-- if batches have a prefix, the file after them is that after the prefix and then the further events
abbrev pub FurtherEventsLaw : Type 0
FurtherEventsLaw = (base : RegisterFile) (batches front : Batches) → StartsWith batches front
    → file_from base batches ≡ fold step (file_from base front) (further_events batches front)

-- an entry that is frozen at one look stays as it is at each later look of the same checker, which has its batches as a
-- prefix, if the further events are only writes (3.7.1.2 and Smepmp)
abbrev pub LaterLookLaw : Type 0
LaterLookLaw = (base : RegisterFile) (later earlier : Batches) → StartsWith later earlier
    → (i : ℕ) → is_frozen (file_from base earlier) i ≡ true
    → list_all is_write (further_events later earlier) ≡ true
    → StaysFrozen (file_from base earlier) (file_from base later) i

-- a unit has a place for each checker, and one for a notice to each
abbrev pub PlacesLaw : Type 0
PlacesLaw = 2 * CHECKERS ≤ PLACES
