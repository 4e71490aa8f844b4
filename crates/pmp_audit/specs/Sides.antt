-- The faults of one of two scripts, while they are read.
use Rattle.std.specs.Prelude.{◌≡◌}
use Rattle.pmp_text.specs.declared.fault.Fault.{Fault}
use Rattle.pmp_text.specs.declared.fault.Source.{Source}
use Rattle.pmp_text.specs.FaultPlaces.{fault_on}

-- the script on this side is refused
abbrev pub OnSide : (side : Source) → (Refuses : Fault → Type 0) → Fault → Type 0
OnSide side Refuses fault = (why : Fault) × (fault ≡ fault_on side why) × Refuses why
