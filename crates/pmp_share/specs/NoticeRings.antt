-- Rings of notices, all of one unit.
use Rattle.std.specs.Prelude.{◌≡◌, ℕ, ◌≤◌, List, [], ◌∷◌, drop}
use denote.RawPtr.{Ptr}
use mathlib.Core.List.{IsPrefix}
use Rattle.rtrb.specs.Shared.{Names}
use Rattle.rtrb.specs.declared.end.End.{End}
use Rattle.std.specs.declared.alloc.Global.{Global}
use Rattle.pmp_share.specs.declared.knowledge.Known.{Known}
use Rattle.pmp_share.specs.Tokens.{UnitId}

-- which ring
pub record Ring : Type 0 where
  pub words : Ptr
  pub slots : Ptr
  pub names : Names
  pub heap : Global

abbrev pub ring_of : {T P : Type 0} → End T Global P → Ring
ring_of end = record { words = end.words; slots = end.slots; names = end.names; heap = end.heap }

-- the sending end: the notices that it sent, in order, and how many more it surely takes
pub record SenderToken : Type 0 where
  pub ring : Ring
  pub unit : UnitId
  pub sent : List Known
  pub room : ℕ

-- the receiving end: the notices that it received, in order, and those that it has seen arrive since
pub record ReceiverToken : Type 0 where
  pub ring : Ring
  pub unit : UnitId
  pub received : List Known
  pub waiting : List Known

-- both ends of a new ring, with room for `room` notices of the unit
pub record IsNewRing (unit : UnitId) (room : ℕ) (sender : SenderToken) (receiver : ReceiverToken) : Type 0 where
  pub one : receiver.ring ≡ sender.ring
  pub units : (sender.unit ≡ unit) × (receiver.unit ≡ unit)
  pub none : (sender.sent ≡ []) × (receiver.received ≡ [])
  pub empty : sender.room ≡ room

-- the end checked what the other did: nothing was sent or received, and no less is known
abbrev pub SenderLooked : SenderToken → SenderToken → Type 0
SenderLooked old new =
    (new.ring ≡ old.ring) × (new.unit ≡ old.unit) × (new.sent ≡ old.sent) × (old.room ≤ new.room)

abbrev pub ReceiverLooked : ReceiverToken → ReceiverToken → Type 0
ReceiverLooked old new =
    (new.ring ≡ old.ring) × (new.unit ≡ old.unit) × (new.received ≡ old.received) × IsPrefix old.waiting new.waiting

-- ---- how a ring knows its unit: from a first notice, which nobody sent

-- those that were sent
abbrev pub after_first : List Known → List Known
after_first notices = drop 1 notices

-- the first is of this unit
abbrev pub Began : List Known → UnitId → Type 0
Began [] unit = ⊥
Began (first ∷ notices) unit = first.unit ≡ unit

-- a notice's unit is that of the first notice before it
abbrev pub FollowsFirst : List Known → Known → Type 0
FollowsFirst [] notice = Unit {0}
FollowsFirst (first ∷ notices) notice = notice.unit ≡ first.unit
