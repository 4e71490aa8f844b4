-- Frozen entries decide as they did.
use borrow.Author.Tests.{tests}
use Rattle.std.proofs.Common.{rules, ◌≡◌, ◌↔◌, ℕ, ◌≤◌, Bool, true, false, List, Some, fold, sym, ap, subst, ◌∙◌, arith}
use Rattle.std.specs.List.{list_all}
use Rattle.pmp_core.specs.declared.access.Access.{Access}
use Rattle.pmp_core.specs.declared.access.Kind.{Kind}
use Rattle.pmp_core.specs.declared.access.Mode.{Mode}
use Rattle.pmp_core.specs.declared.decision.Cause.{Cause}
use Rattle.pmp_core.specs.declared.decision.Cause.TheVariants.{Rule, Split, NoMatch}
use Rattle.pmp_core.specs.declared.decision.Decision.{Decision}
use Rattle.pmp_core.specs.declared.event.Event.{Event}
use Rattle.pmp_core.specs.Decision.{Covers, IsDecider, IsDecision, IsDecisionBy, Touches}
use Rattle.pmp_core.specs.Matching.{Matches}
use Rattle.pmp_core.specs.Configuration.{Configuration, is_reserved}
use Rattle.pmp_core.specs.RegisterFile.{RegisterFile, entry_at, is_held, IsLegal}
use Rattle.pmp_core.specs.RegisterWrite.{step}
use Rattle.pmp_core.specs.Rights.{allows, rights, rule_rights}
use Rattle.pmp_core.specs.Histories.{is_write}
use Rattle.pmp_core.specs.ProtectionLaw.{IsDecidedWithin, FewerRightsLaw, ProtectedLaw}
use Rattle.pmp_core.proofs.Decisions.{one_decider}
use Rattle.pmp_core.proofs.Held.{held_at, held_still}
use Rattle.pmp_core.proofs.Locks.{lock_law}
use Rattle.pmp_core.proofs.Sticky.{mml_stays}

-- entries 0 to i have the same configuration in both, and match the same bytes
record Agree (one other : RegisterFile) (i : ℕ) : Type 0 where
  configuration : (j : ℕ) → j ≤ i → (entry_at other.entries j).configuration ≡ (entry_at one.entries j).configuration
  bytes : (j : ℕ) → j ≤ i → (byte : ℕ) → Matches other j byte ↔ Matches one j byte

turned : (one other : RegisterFile) (i : ℕ) → Agree one other i → Agree other one i
turned one other i same = search rules

module _ (one other : RegisterFile) (i : ℕ) (same : Agree one other i) (access : Access) where
  touches : (j : ℕ) → j ≤ i → Touches one access j → Touches other access j
  touches j within (byte, inside, matches) = (byte, inside, (same.bytes j within byte).1 matches)

  touched : (j : ℕ) → j ≤ i → Touches other access j → Touches one access j
  touched j within (byte, inside, matches) = (byte, inside, (same.bytes j within byte).0 matches)

  decides : (j : ℕ) → j ≤ i → IsDecider one access (Some j) → IsDecider other access (Some j)
  decides j within (here, before) = (
    touches j within here,
    λ k less found. before k less (touched k (omega arith) found),
  )

  covers : (j : ℕ) → j ≤ i → Covers one access j → Covers other access j
  covers j within all byte inside = (same.bytes j within byte).1 (all byte inside)

  covered : (j : ℕ) → j ≤ i → Covers other access j → Covers one access j
  covered j within all byte inside = (same.bytes j within byte).0 (all byte inside)

module _ (one other : RegisterFile) (i : ℕ) (same : Agree one other i) (mml : other.mseccfg.mml ≡ one.mseccfg.mml)
    (access : Access) (decided : IsDecidedWithin one access i) where
  within : (k : ℕ) → IsDecider one access (Some k) → k ≤ i
  within k decider =
      let same = one_decider one access decided.0 k decided.2 decider in let less = decided.1 in omega arith

  same_rights : (k : ℕ) → k ≤ i → rights other k access.mode ≡ rights one k access.mode
  same_rights k less = search rules

  decided_alike : (allowed : Bool) (cause : Cause) → IsDecisionBy one access allowed cause
      → IsDecisionBy other access allowed cause
  decided_alike allowed NoMatch (none, by_default) = absurd (none decided.0 decided.2.0)
  decided_alike allowed (Split k) (decider, lacks, refused) =
      let less = within k decider in (
        decides one other i same access k less decider,
        (λ all. lacks (covered one other i same access k less all)),
        refused,
      )
  decided_alike allowed (Rule k) (decider, all, by_rule) =
      let less = within k decider in (
        decides one other i same access k less decider,
        covers one other i same access k less all,
        by_rule ∙ ap (λ r. allows r access.kind) (sym (same_rights k less)),
      )

  also_within : IsDecidedWithin other access i
  also_within = (decided.0, decided.1, decides one other i same access decided.0 decided.1 decided.2)

agree_after : (file : RegisterFile) (i : ℕ) (events : List Event) → is_held file i ≡ true
    → list_all is_write events ≡ true → Agree file (fold step file events) i
agree_after file i events held writes = search (rules, tests, lock_law, held_at)

decided_the_same : (file : RegisterFile) (i : ℕ) (events : List Event) → is_held file i ≡ true
    → list_all is_write events ≡ true → (fold step file events).mseccfg.mml ≡ file.mseccfg.mml
    → (access : Access) → IsDecidedWithin file access i → (decision : Decision)
    → IsDecision file access decision ↔ IsDecision (fold step file events) access decision
decided_the_same file i events held writes mml access decided decision =
    let after = fold step file events in
    let same = agree_after file i events held writes in (
      decided_alike file after i same mml access decided decision.allowed decision.cause,
      decided_alike after file i (turned file after i same) (sym mml) access
          (also_within file after i same mml access decided) decision.allowed decision.cause,
    )

-- ---- where lockdown rises

fewer_by_mml : FewerRightsLaw → (c : Configuration) → (one other : Bool)
    → (one ≡ true → other ≡ true) → (one ≡ false → is_reserved c ≡ false) → (mode : Mode) (kind : Kind)
    → allows (rule_rights one c mode) kind ≡ false → allows (rule_rights other c mode) kind ≡ false
fewer_by_mml law c one other stays legal mode kind closed = search rules

module _ (fewer : FewerRightsLaw) (file : RegisterFile) (i : ℕ) (events : List Event) (legal : IsLegal file)
    (held : is_held file i ≡ true) (writes : list_all is_write events ≡ true) (access : Access)
    (decided : IsDecidedWithin file access i) where
  abbrev later : RegisterFile
  later = fold step file events

  same_entries : Agree file later i
  same_entries = agree_after file i events held writes

  still_decided : IsDecider later access (Some decided.0)
  still_decided = decides file later i same_entries access decided.0 decided.1 decided.2

  rights_fewer : (k : ℕ) → k ≤ i → allows (rights file k access.mode) access.kind ≡ false
      → allows (rights later k access.mode) access.kind ≡ false
  rights_fewer k less closed = search (rules, tests, same_entries, fewer_by_mml, mml_stays)

  -- the rule of entry k allowed nothing where it was the decider and refused
  was_closed : (k : ℕ) → IsDecider file access (Some k) → Covers file access k → (allowed : Bool)
      (cause : Cause) → IsDecisionBy file access allowed cause → allowed ≡ false
      → allows (rights file k access.mode) access.kind ≡ false
  was_closed k decider all allowed NoMatch (none, by_default) refused = absurd (none k decider.0)
  was_closed k decider all allowed (Split j) (other, lacks, is) refused =
      let same = one_decider file access k j decider other in
      absurd (lacks (subst (Covers file access) same all))
  was_closed k decider all allowed (Rule j) (other, covers, by_rule) refused =
      let same = one_decider file access k j decider other in
      ap (λ (n : ℕ). allows (rights file n access.mode) access.kind) same ∙ sym by_rule ∙ refused

  stays_closed : (before : Decision) → IsDecision file access before → before.allowed ≡ false → (allowed : Bool)
      (cause : Cause) → IsDecisionBy later access allowed cause → allowed ≡ false
  stays_closed before was refused allowed NoMatch (none, by_default) = absurd (none decided.0 still_decided.0)
  stays_closed before was refused allowed (Split k) (decider, lacks, is) = is
  stays_closed before was refused allowed (Rule k) (decider, all, by_rule) =
      let same = one_decider later access decided.0 k still_decided decider in
      let less : k ≤ i = let within = decided.1 in omega arith in
      let own : IsDecider file access (Some k) =
      subst (λ (n : ℕ). IsDecider file access (Some n)) same decided.2 in
      by_rule ∙ rights_fewer k less (was_closed k own (covered file later i same_entries access k less all)
      before.allowed before.cause was refused)

pub protected_law : FewerRightsLaw → ProtectedLaw
protected_law fewer file i events legal held writes = record {
  decided = decided_the_same file i events held writes;
  refused = λ access decided one other was is closed.
      stays_closed fewer file i events legal held writes access decided one was closed other.allowed other.cause is;
  held = held_still file i events held writes;
}
