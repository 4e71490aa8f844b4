-- Why a plan is refused.
use Rattle.std.specs.Prelude.{◌≡◌, ◌⊎◌, ℕ, ◌+◌, ◌*◌, ◌/◌, ◌^◌, ◌<◌, ◌≤◌, ◌==◌, Bool, true, false, not, List, [], Some}
use Rattle.std.specs.Prelude.{◌≢◌, All, length, slice_get, if◌then◌else◌}
use Rattle.std.specs.List.{AllPairs, list_all}
use Rattle.pmp_core.specs.declared.event.Event.{Event}
use Rattle.pmp_core.specs.declared.hart.Profile.{Profile}
use Rattle.pmp_core.specs.declared.size.TheConstants.{MAX_ENTRIES}
use Rattle.pmp_core.specs.Hart.{word_addresses}
use Rattle.pmp_core.specs.Histories.{is_write, replay}
use Rattle.pmp_core.specs.RegisterFile.{RegisterFile}
use Rattle.pmp_text.specs.declared.refusal.Refusal.TheVariants.{BadPair, FewEntries, NoOrder, NotHeld, Overlap}
use Rattle.pmp_text.specs.declared.refusal.Refusal.TheVariants.{PastEnd, Stopped, TooFine}
use Rattle.pmp_text.specs.declared.fault.Place.TheVariants.{PlanEntries, PlanRows}
use Rattle.pmp_text.specs.declared.flaw.Flaw.{Flaw}
use Rattle.pmp_text.specs.FaultPlaces.{somewhere}
use Rattle.pmp_text.specs.Flaws.{as_whole, at_row, part}
use Rattle.pmp_names.specs.AddressNames.{next_row}
use Rattle.pmp_plan.specs.declared.aim.Aim.{Aim}
use Rattle.pmp_text.specs.declared.fault.Fault.{Fault}
use Rattle.pmp_plan.specs.declared.plan_row.PlanRow.{PlanRow}
use Rattle.pmp_plan.specs.declared.security.Security.{Security}
use Rattle.pmp_plan.specs.PlanRules.{HasRule}
use Rattle.pmp_plan.specs.Plans.{MeetsPlan, is_in, no_security}
use Rattle.pmp_plan.specs.Routes.{IsPlain, lasting}
use Rattle.pmp_text.specs.declared.fault.Source.TheVariants as source

-- the fault of the row with this index
abbrev pub in_row : (index : ℕ) → Flaw → Fault
in_row index flaw = at_row source.Plan (next_row index) flaw

-- of two rows, which have a byte in common
abbrev pub two_rows : (one other : ℕ) → Fault
two_rows one other = record { refusal = Overlap; place = PlanRows (next_row one) (next_row other) }

-- of more entries than there are, and the row that takes the most of them, unless it takes none
abbrev pub too_few : (found index takes : ℕ) → Fault
too_few found index takes = if takes == 0 then somewhere FewEntries
    else record { refusal = FewEntries; place = PlanEntries (next_row index) takes found }

-- the row with this index has the byte
abbrev pub HasByte : List PlanRow → (index byte : ℕ) → Type 0
HasByte rows index byte = (row : PlanRow) × (slice_get rows index ≡ Some row) × (is_in byte row ≡ true)

-- two rows have no byte in common
abbrev pub AreApart : PlanRow → PlanRow → Type 0
AreApart one other = (byte : ℕ) → is_in byte one ≡ true → is_in byte other ≡ true → ⊥

abbrev pub HaveCommonByte : PlanRow → PlanRow → Type 0
HaveCommonByte one other = (byte : ℕ) × (is_in byte one ≡ true) × (is_in byte other ≡ true)

-- the rows with these indexes have a byte in common
pub record AreOverlapping (rows : List PlanRow) (row other : ℕ) : Type 0 where
  pub order : row < other
  pub byte : ℕ
  pub one : HasByte rows row byte
  pub second : HasByte rows other byte

-- the byte isn't the first of a grain (3.7.1.1)
abbrev pub is_inside : Profile → (byte : ℕ) → Bool
is_inside hart byte = let grain = 2 ^ (hart.grain + 2) in not (byte / grain * grain == byte)

-- the row begins or ends inside a grain, or has bytes above the hart's addresses
abbrev pub IsUnfit : Profile → PlanRow → Flaw → Type 0
IsUnfit hart row flaw = ((flaw ≡ part 0 TooFine) × (is_inside hart row.first ≡ true))
    ⊎ ((flaw ≡ part 1 TooFine) × (is_inside hart (row.last + 1) ≡ true))
    ⊎ ((flaw ≡ as_whole PastEnd) × (word_addresses hart ≤ row.last / 4))

-- the row begins and ends on the hart's grain boundaries, below the end of its addresses
pub record IsFit (hart : Profile) (row : PlanRow) : Type 0 where
  pub first : is_inside hart row.first ≡ false
  pub last : is_inside hart (row.last + 1) ≡ false
  pub below : row.last / 4 < word_addresses hart

-- the plan alone has no fault: no two rows have a byte in common, each fits the hart, an entry can have its rights, and
-- the hart has mseccfg if a bit of it is asked for
pub record IsSound (hart : Profile) (security : Security) (rows : List PlanRow) : Type 0 where
  pub apart : AllPairs AreApart rows
  pub fit : All (IsFit hart) rows
  pub kept : hart.has_smepmp ≡ false → security ≡ no_security
  pub ruled : All (λ row. HasRule security row.demand) rows

-- the writes, none of which is a reset, lead from the hart after reset to registers that meet the plan
pub record Makes (hart : Profile) (security : Security) (rows : List PlanRow) (writes : List Event) : Type 0 where
  pub only : list_all is_write writes ≡ true
  pub met : MeetsPlan hart security rows (replay hart writes)

-- some do
abbrev pub CanMeet : Profile → Security → List PlanRow → Type 0
CanMeet hart security rows = (writes : List Event) × Makes hart security rows writes

-- the row is one of the plan's; or it has none, and the hart, without entries, needs one
abbrev pub NamesRow : Profile → List PlanRow → (found row takes : ℕ) → Type 0
NamesRow hart rows found row takes =
    (row < length rows) ⊎ ((rows ≡ []) × (hart.entries ≡ 0) × (found ≡ 1) × (takes ≡ 0))

-- a row is unfit for the hart, or no rule gives what it asks
abbrev pub IsFlawOf : Profile → Security → PlanRow → Flaw → Type 0
IsFlawOf hart security row flaw =
    IsUnfit hart row flaw ⊎ ((flaw ≡ as_whole BadPair) × ¬ (HasRule security row.demand))

-- two rows have a byte in common; a row has a flaw; the hart has no mseccfg, though a bit of it is asked for; a sound
-- plan takes `found` entries, more than the hart has, a row of it is named, and that many suffice if a hart can have
-- them; or no entries were found for a sound plan with rows
pub data Refuses (hart : Profile) (security : Security) (rows : List PlanRow) : Fault → Type 0 where
  overlap : (one other : ℕ) → AreOverlapping rows one other → Refuses hart security rows (two_rows one other)
  of_row : (index : ℕ) (row : PlanRow) (flaw : Flaw) → slice_get rows index ≡ Some row
      → IsFlawOf hart security row flaw → Refuses hart security rows (in_row index flaw)
  not_held : hart.has_smepmp ≡ false → security ≢ no_security → Refuses hart security rows (somewhere NotHeld)
  few_entries : (found row takes : ℕ) → IsSound hart security rows → hart.entries < found
      → NamesRow hart rows found row takes
      → (found ≤ MAX_ENTRIES → CanMeet (record hart { entries = found }) security rows)
      → Refuses hart security rows (too_few found row takes)
  stopped : IsSound hart security rows → 0 < length rows → Refuses hart security rows (somewhere Stopped)

-- no order of writes was found for a sound plan, which the registers don't meet yet; and if they are those of reset, it
-- has rows, and something is asked of the way
pub record HasNoOrder (start : RegisterFile) (aim : Aim) (rows : List PlanRow) : Type 0 where
  pub sound : IsSound start.profile (lasting start aim.security) rows
  pub unmet : ¬ (MeetsPlan start.profile (lasting start aim.security) rows start)
  pub bound : ¬ (IsPlain start aim rows)

-- from these registers: the plan has this fault, or there is no order
abbrev pub RefusesFrom : RegisterFile → Aim → List PlanRow → Fault → Type 0
RefusesFrom start aim rows why =
    Refuses start.profile (lasting start aim.security) rows why
    ⊎ ((why ≡ somewhere NoOrder) × HasNoOrder start aim rows)
