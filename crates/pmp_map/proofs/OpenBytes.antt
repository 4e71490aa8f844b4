-- How owners answer for their bytes, and what a hold keeps closed.
use Rattle.std.proofs.Common.{◌≡◌, ◌<◌, ℕ, Bool, true, false, List, Option, Some, None, length, fold, refl, sym, ap}
use Rattle.std.proofs.Common.{◌∙◌, arith, get_or, rules}
use Rattle.std.specs.List.{list_all, range_with_len}
use Rattle.std.proofs.lemmas.Bool.{false≢true}
use Rattle.std.proofs.lemmas.List.FromFn.{get_or-range_with_len, length-range_with_len}
use Rattle.std.proofs.lemmas.List.Sums.{AllPass-from_list_all}
use Rattle.pmp_core.specs.declared.access.Access.{Access}
use Rattle.pmp_core.specs.declared.access.Kind.{Kind}
use Rattle.pmp_core.specs.declared.access.Mode.{Mode}
use Rattle.pmp_core.specs.declared.access.TheConstants.{ADDRESS_LIMIT}
use Rattle.pmp_core.specs.declared.decision.Decision.{Decision}
use Rattle.pmp_core.specs.declared.event.Event.{Event}
use Rattle.pmp_core.specs.Access.{IsAccess}
use Rattle.pmp_core.specs.Decision.{IsDecision, IsOwner}
use Rattle.pmp_core.specs.Histories.{is_write}
use Rattle.pmp_core.specs.Matching.{Matches}
use Rattle.pmp_core.specs.ProtectionLaw.{ProtectedLaw}
use Rattle.pmp_core.specs.RegisterFile.{RegisterFile, IsLegal, is_frozen}
use Rattle.pmp_core.specs.RegisterWrite.{step}
use Rattle.pmp_core.specs.Rights.{allows, default_rights_by, has_entries}
use Rattle.pmp_core.proofs.Decisions.{one_decision}
use Rattle.pmp_core.proofs.Sticky.{length-writes}
use Rattle.pmp_core.proofs.Locks.{lock_law}
use Rattle.pmp_core.proofs.Sticky.{sticky_law}
use Rattle.pmp_map.specs.Answers.{decision_by, owned_rights}
use Rattle.pmp_map.specs.OpenBytes.{IsAnswered, holds}
use Rattle.pmp_map.specs.OpenBytesLaw.{HeldByteLaw, OneAnswerLaw, OpenByteLaw}

-- the access of one byte
abbrev byte_access : (mode : Mode) (kind : Kind) (byte : ℕ) → byte < ADDRESS_LIMIT → Access
byte_access mode kind byte inside = record {
  mode = mode;
  kind = kind;
  start = byte;
  length = 1;
  not_empty = omega arith;
  not_long = omega arith;
  inside = omega arith;
}

-- it is decided by the byte's owner
pub decided_by_owner : (file : RegisterFile) (access : Access) (mode : Mode) (kind : Kind) (byte : ℕ) (owner : Option ℕ)
    → IsAccess access mode kind byte 1 → IsOwner file byte owner
    → IsDecision file access (decision_by file owner access)
decided_by_owner file access mode kind byte owner is owned = search rules

pub open_byte : OpenByteLaw
open_byte file byte owner mode kind inside owned =
    let access = byte_access mode kind byte inside in
    let is : IsAccess access mode kind byte 1 =
    record { mode_is = refl; kind_is = refl; start_is = refl; length_is = refl } in
    (access, decision_by file owner access, is, decided_by_owner file access mode kind byte owner is owned, refl)

-- whoever owns the byte, that is the answer
pub answer_by_owner : OneAnswerLaw
answer_by_owner file byte owner allowed mode kind owned (access, decision, is, decided, same) =
    sym same
    ∙ ap (λ (d : Decision). d.allowed) (one_decision file access decision (decision_by file owner access) decided
    (decided_by_owner file access mode kind byte owner is owned))
    ∙ ap (λ (m : Mode). allows (owned_rights file owner m) access.kind) is.mode_is
    ∙ ap (allows (owned_rights file owner mode)) is.kind_is

-- ---- holds

-- what the default refuses it still refuses where more of MML and MMWP are set
fewer_by_default : (some mml mmwp mml_later mmwp_later : Bool) → (mml ≡ true → mml_later ≡ true)
    → (mmwp ≡ true → mmwp_later ≡ true) → (mode : Mode) (kind : Kind)
    → allows (default_rights_by some mml mmwp mode) kind ≡ false
    → allows (default_rights_by some mml_later mmwp_later mode) kind ≡ false
fewer_by_default some mml mmwp mml_later mmwp_later up stays mode kind closed = search rules

module _ (entry_inside : (file : RegisterFile) (i byte : ℕ) → Matches file i byte → i < length file.entries)
    (file : RegisterFile) (events : List Event) (writes : list_all is_write events ≡ true) (byte : ℕ) where
  abbrev later : RegisterFile
  later = fold step file events

  -- where all entries are frozen, a byte that none matches is matched by none later
  still_unowned : holds file None ≡ true → IsOwner file byte None → IsOwner later byte None
  still_unowned held unowned i matches =
      let n = length file.entries in
      let inside : i < n = omega (arith, entry_inside later i byte matches, length-writes file events writes) in
      let place = AllPass-from_list_all (is_frozen file) (range_with_len 0 n) held i 0
      (omega (arith, length-range_with_len 0 n)) in
      let number : get_or (range_with_len 0 n) i 0 ≡ i = omega (arith, get_or-range_with_len 0 n i 0 inside) in
      let frozen : is_frozen file i ≡ true = rw number at place in
      unowned i (((lock_law file i events frozen writes).bytes byte).0 matches)

  still_closed : ProtectedLaw → IsLegal file → (owner : Option ℕ) (mode : Mode) (kind : Kind)
      → IsOwner file byte owner → holds file owner ≡ true
      → allows (owned_rights file owner mode) kind ≡ false → (allowed : Bool)
      → IsAnswered later allowed mode kind byte → allowed ≡ false
  still_closed protected legal None mode kind owned held closed allowed answered =
      let sticky = sticky_law file events writes in
      answer_by_owner later byte None allowed mode kind (still_unowned held owned) answered
      ∙ rw (length-writes file events writes) (fewer_by_default (has_entries file) file.mseccfg.mml file.mseccfg.mmwp
      later.mseccfg.mml later.mseccfg.mmwp sticky.mml sticky.mmwp mode kind closed)
  still_closed protected legal (Some i) mode kind owned held closed allowed (access, decision, is, decided, same) =
      let before = decision_by file (Some i) access in
      let was = decided_by_owner file access mode kind byte (Some i) is owned in
      let refused : before.allowed ≡ false = answer_by_owner file byte (Some i) before.allowed mode kind owned
      (access, before, is, was, refl) ∙ closed in
      sym same
      ∙ (protected file i events legal held writes).refused access (i, omega arith, was.0) before decision was decided
      refused

pub held_byte : ((file : RegisterFile) (i byte : ℕ) → Matches file i byte → i < length file.entries) → ProtectedLaw
    → HeldByteLaw
held_byte entry_inside protected file byte mode kind events legal (owner, owned, held) shut writes found =
    let closed = sym (answer_by_owner file byte owner false mode kind owned shut) in
    false≢true (sym (still_closed entry_inside file events writes byte protected legal owner mode kind owned held closed
    true found))
