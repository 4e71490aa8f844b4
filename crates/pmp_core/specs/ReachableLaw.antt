-- Which register files a hart can have (Volume II, 3.7.1 and Smepmp).
use Rattle.std.specs.Prelude.{◌≡◌, List}
use Rattle.pmp_core.specs.declared.event.Event.{Event}
use Rattle.pmp_core.specs.declared.hart.Profile.{Profile}
use Rattle.pmp_core.specs.Hart.{IsProfile}
use Rattle.pmp_core.specs.RegisterFile.{RegisterFile, IsLegal}
use Rattle.pmp_core.specs.Histories.{replay}

-- after a reset and any events, the file is legal
abbrev pub LegalLaw : Type 0
LegalLaw = (profile : Profile) (events : List Event) → IsProfile profile → IsLegal (replay profile events)

-- every legal file is reached from reset by some events
abbrev pub ReachableLaw : Type 0
ReachableLaw = (file : RegisterFile) → IsLegal file → (events : List Event) × (replay file.profile events ≡ file)
