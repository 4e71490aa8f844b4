-- How the refusals of a shared unit are returned.
use Rattle.std.specs.Prelude.{◌≡◌, ◌⊎◌, ℕ}
use Rattle.pmp_share.specs.declared.fault.ShareFault.{ShareFault}
use Rattle.pmp_share.specs.declared.fault.ShareFault.TheVariants as share
use Rattle.pmp_text.specs.declared.fault.Fault.{Fault}
use Rattle.pmp_text.specs.declared.fault.Place.TheVariants.{Events}
use Rattle.pmp_text.specs.declared.refusal.Refusal.TheVariants as refusal
use Rattle.pmp_text.specs.FaultPlaces.{somewhere}
use Rattle.pmp_text.specs.Outcomes.{no_memory}

abbrev pub fault_of_share : ShareFault → Fault
fault_of_share share.NoPlace = somewhere refusal.NoPlace
fault_of_share share.Full = somewhere refusal.Full
fault_of_share share.Memory = no_memory

-- a worker saw this number of events, more than it was told of
abbrev pub moved_on : (seen : ℕ) → Fault
moved_on seen = record { refusal = refusal.Moved; place = Events seen }

-- the unit has no place, or a worker saw more events, of which this holds
abbrev pub Stopped : (Seen : ℕ → Type 0) → Fault → Type 0
Stopped Seen fault = (fault ≡ somewhere refusal.NoPlace) ⊎ ((seen : ℕ) × (fault ≡ moved_on seen) × Seen seen)
