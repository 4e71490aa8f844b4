-- What frozen entries protect (Volume II, 3.7.1.2, 3.7.1.3 and Smepmp).
use Rattle.std.specs.Prelude.{◌≡◌, ◌↔◌, ◌≤◌, ℕ, true, false, List, fold, Some, IsTrue}
use Rattle.std.specs.List.{list_all}
use Rattle.pmp_core.specs.declared.access.Access.{Access}
use Rattle.pmp_core.specs.declared.access.Kind.{Kind}
use Rattle.pmp_core.specs.declared.access.Kind.TheVariants.{Fetch}
use Rattle.pmp_core.specs.declared.access.Mode.{Mode}
use Rattle.pmp_core.specs.declared.access.Mode.TheVariants.{M}
use Rattle.pmp_core.specs.declared.decision.Cause.TheVariants.{Rule}
use Rattle.pmp_core.specs.declared.decision.Decision.{Decision}
use Rattle.pmp_core.specs.declared.event.Event.{Event}
use Rattle.pmp_core.specs.Configuration.{Configuration, is_reserved}
use Rattle.pmp_core.specs.Decision.{IsDecider, IsDecision}
use Rattle.pmp_core.specs.RegisterFile.{RegisterFile, is_frozen, is_held, IsLegal}
use Rattle.pmp_core.specs.RegisterWrite.{step}
use Rattle.pmp_core.specs.Rights.{allows, rule_rights}
use Rattle.pmp_core.specs.Histories.{is_write}
use Rattle.pmp_core.specs.LockLaw.{StaysFrozen}

-- one of entries 0 to i is the access's decider, even by a partial match
abbrev pub IsDecidedWithin : RegisterFile → Access → ℕ → Type 0
IsDecidedWithin file access i = (j : ℕ) × (j ≤ i) × IsDecider file access (Some j)

-- setting MML gives no rule a new right, except the combinations that are reserved while MML is 0
abbrev pub FewerRightsLaw : Type 0
FewerRightsLaw = (c : Configuration) → is_reserved c ≡ false → (mode : Mode) (kind : Kind)
    → IsTrue (allows (rule_rights true c mode) kind) → IsTrue (allows (rule_rights false c mode) kind)

-- if MML is unchanged, each access that entries 0 to i decide before is decided the same after; and what they refuse
-- before is refused after
pub record StaysProtected (before after : RegisterFile) (i : ℕ) : Type 0 where
  pub decided : after.mseccfg.mml ≡ before.mseccfg.mml → (access : Access) → IsDecidedWithin before access i
      → (decision : Decision) → IsDecision before access decision ↔ IsDecision after access decision
  pub refused : (access : Access) → IsDecidedWithin before access i → (one other : Decision)
      → IsDecision before access one → IsDecision after access other → one.allowed ≡ false → other.allowed ≡ false
  pub held : is_held after i ≡ true

-- if entries 0 to i are all frozen, they protect like this through every list of writes, even one that sets MML
abbrev pub ProtectedLaw : Type 0
ProtectedLaw = (file : RegisterFile) (i : ℕ) (events : List Event) → IsLegal file → is_held file i ≡ true
    → list_all is_write events ≡ true → StaysProtected file (fold step file events) i

-- if MML is set and some entry is frozen, each fetch that M-mode is allowed after any writes is by an entry that was
-- frozen before, and has the same configuration and the same bytes (Smepmp)
abbrev pub MachineCodeLaw : Type 0
MachineCodeLaw = (file : RegisterFile) (k : ℕ) (events : List Event) → IsTrue file.mseccfg.mml
    → is_frozen file k ≡ true → list_all is_write events ≡ true → (access : Access) (decision : Decision)
    → access.mode ≡ M → access.kind ≡ Fetch → IsDecision (fold step file events) access decision
    → IsTrue decision.allowed
    → (i : ℕ) × (decision.cause ≡ Rule i) × (is_frozen file i ≡ true) × StaysFrozen file (fold step file events) i
