-- A unit's histories: the register file after reset and events, or batches of events.
use Rattle.std.specs.Prelude.{Bool, true, false, List, fold}
use Rattle.std.specs.List.{flat_map}
use Rattle.pmp_core.specs.declared.event.Event.{Event}
use Rattle.pmp_core.specs.declared.event.Event.TheVariants.{Write, Reset}
use Rattle.pmp_core.specs.declared.hart.Profile.{Profile}
use Rattle.pmp_core.specs.RegisterFile.{RegisterFile, reset_file}
use Rattle.pmp_core.specs.RegisterWrite.{step}

-- the hart's file after reset and these events
abbrev pub replay : Profile → List Event → RegisterFile
replay profile = fold step (reset_file profile)

-- the batches, one after another
abbrev pub joined : List (List Event) → List Event
joined batches = flat_map (λ batch. batch) batches

-- the hart's file after reset and these batches
abbrev pub file_after : Profile → List (List Event) → RegisterFile
file_after profile batches = replay profile (joined batches)

-- whether the event is a write, not a reset
abbrev pub is_write : Event → Bool
is_write (Write csr value) = true
is_write Reset = false
