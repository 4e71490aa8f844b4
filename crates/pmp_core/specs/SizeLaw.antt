-- A hart with more, unused entries decides the same (Volume II, 3.7.1).
use Rattle.std.specs.Prelude.{◌≡◌, ◌↔◌, ℕ, ◌*◌, ◌<◌, ◌≤◌, nat_lt, ◌==◌, ◌||◌, Bool, true, List}
use Rattle.std.specs.List.{list_all, range_with_len}
use Rattle.pmp_core.specs.declared.access.Access.{Access}
use Rattle.pmp_core.specs.declared.csr.Csr.TheVariants.{Cfg, Addr}
use Rattle.pmp_core.specs.declared.decision.Decision.{Decision}
use Rattle.pmp_core.specs.declared.event.Event.{Event}
use Rattle.pmp_core.specs.declared.event.Event.TheVariants.{Write}
use Rattle.pmp_core.specs.declared.register_write.TheConstants.{ENTRIES_PER_CFG}
use Rattle.pmp_core.specs.declared.hart.Profile.{Profile}
use Rattle.pmp_core.specs.Hart.{IsProfile}
use Rattle.pmp_core.specs.RegisterFile.{RegisterFile}
use Rattle.pmp_core.specs.Decision.{IsDecision}
use Rattle.pmp_core.specs.Histories.{replay}
use Rattle.pmp_core.specs.Ranges.{decision_of}
use Rattle.pmp_core.specs.WriteReasons.{byte_for}

-- a write to the first n entries: pmpcfg q with zeros for others, pmpaddr i for i < n, mseccfg, mseccfgh; or a reset.
-- With n = 16 every write to pmpcfg0, pmpcfg2 and pmpaddr0 to pmpaddr15 is one
abbrev pub writes_first : (n : ℕ) → Event → Bool
writes_first n (Write (Cfg q) value) =
    list_all (λ i. nat_lt i n || byte_for q value i == 0) (range_with_len (4 * q) ENTRIES_PER_CFG)
writes_first n (Write (Addr i) value) = nat_lt i n
writes_first n _ = true

-- both files decide the access the same
pub record DecideAlike (one other : RegisterFile) (access : Access) : Type 0 where
  pub by_bytes : (decision : Decision) → IsDecision one access decision ↔ IsDecision other access decision
  pub computed : decision_of one access ≡ decision_of other access

-- if the events write only to a hart's first n entries, and n is at least 1, it decides the same with n entries and
-- with m, for any m from n on: 16 and 64 are one case
abbrev pub SizeLaw : Type 0
SizeLaw = (hart : Profile) (n m : ℕ) (events : List Event) (access : Access)
    → 0 < n → n ≤ m → IsProfile (record hart { entries = m }) → list_all (writes_first n) events ≡ true
    → DecideAlike (replay (record hart { entries = n }) events) (replay (record hart { entries = m }) events) access
