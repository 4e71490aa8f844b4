-- An RV32 hart decides like an RV64 hart that is given the same bytes (Volume II, 3.7.1).
use Rattle.std.specs.Prelude.{◌≡◌, ◌+◌, ◌/◌, ◌%◌, ◌^◌, ◌==◌, if◌then◌else◌, true, false, List, [], ◌∷◌}
use Rattle.std.specs.List.{flat_map}
use Rattle.pmp_core.specs.declared.access.Access.{Access}
use Rattle.pmp_core.specs.declared.csr.Csr.TheVariants.{Cfg, Mseccfgh}
use Rattle.pmp_core.specs.declared.event.Event.{Event}
use Rattle.pmp_core.specs.declared.event.Event.TheVariants.{Write}
use Rattle.pmp_core.specs.declared.hart.Profile.{Profile}
use Rattle.pmp_core.specs.Histories.{replay}
use Rattle.pmp_core.specs.RegisterFile.{RegisterFile}
use Rattle.pmp_core.specs.SizeLaw.{DecideAlike}

-- the RV32 writes of the same bytes as an RV64 event, whose even pmpcfg has those of two registers
abbrev pub on_rv32 : Event → List Event
on_rv32 (Write (Cfg q) value) =
    if q % 2 == 0 then Write (Cfg q) (value % 2 ^ 32) ∷ Write (Cfg (q + 1)) (value / 2 ^ 32) ∷ [] else []
on_rv32 (Write Mseccfgh value) = []
on_rv32 event = event ∷ []

-- both files have the same entries and the same mseccfg, and decide the access the same
pub record AreAlike (one other : RegisterFile) (access : Access) : Type 0 where
  pub entries : one.entries ≡ other.entries
  pub mseccfg : one.mseccfg ≡ other.mseccfg
  pub decided : DecideAlike one other access

-- an RV64 hart after any events, and one that differs only in XLEN after events that give the same bytes
abbrev pub XlenLaw : Type 0
XlenLaw = (hart : Profile) (events : List Event) (access : Access) → hart.is_rv32 ≡ false
    → AreAlike (replay hart events) (replay (record hart { is_rv32 = true }) (flat_map on_rv32 events)) access
