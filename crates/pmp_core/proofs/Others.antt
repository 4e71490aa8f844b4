-- What a write leaves alone.
use borrow.Author.Tests.{tests}
use Rattle.std.proofs.Common.{rules, ◌≡◌, ◌≢◌, ◌↔◌, ℕ, ◌≤◌, ◌⊎◌, Bool, true, false, ◌&&◌, length}
use Rattle.std.proofs.Common.{Option, Some, None, refl, ap, ◌∙◌, inl, inr}
use Rattle.std.proofs.lemmas.Bool.{cases_lt, cases_Bool, cond-false, eqb-false, or_parts}
use Rattle.std.proofs.lemmas.List.{get_or_past}
use Rattle.pmp_core.specs.declared.access.Access.{Access}
use Rattle.pmp_core.specs.declared.csr.Csr.{Csr}
use Rattle.pmp_core.specs.declared.csr.Csr.TheVariants.{Cfg, Mseccfg}
use Rattle.pmp_core.specs.declared.decision.Cause.{Cause}
use Rattle.pmp_core.specs.declared.decision.Cause.TheVariants.{Rule, Split, NoMatch}
use Rattle.pmp_core.specs.Entry.{Entry}
use Rattle.pmp_core.specs.RegisterFile.{RegisterFile, entry_at}
use Rattle.pmp_core.specs.RegisterWrite.{holds, is_tor, written}
use Rattle.pmp_core.specs.Matching.{Matches, low_address}
use Rattle.pmp_core.specs.Decision.{IsDecider, IsDecisionBy, IsLeast, Touches}
use Rattle.pmp_core.specs.Rights.{has_entries}
use Rattle.pmp_core.specs.Moved.{IsSameEntry}
use Rattle.pmp_core.specs.OthersLaw.{OthersLaw, may_move}
use Rattle.pmp_core.proofs.Legal.{configured_place, length-written, profile-written}
use Rattle.pmp_core.proofs.Locks.{configured_address, low_kept, other_address, same_bytes}

-- ---- entries

not_both : (a b : Bool) → (a && b) ≡ false → b ≡ true → a ≡ false
not_both a b none whole = search rules

module _ (file : RegisterFile) (value : ℕ) where
  past_same : (csr : Csr) (i : ℕ) → length file.entries ≤ i
      → entry_at (written file csr value).entries i ≡ entry_at file.entries i
  past_same csr i past = search (rules, tests, get_or_past, length-written)

  pub entry_kept : (csr : Csr) (i : ℕ) → holds file.profile csr i ≡ false
      → entry_at (written file csr value).entries i ≡ entry_at file.entries i
  entry_kept csr i none = search (rules, tests, configured_place, cond-false, past_same, other_address, eqb-false)

  -- ---- bytes

  address_kept : (q k : ℕ) → (entry_at (written file (Cfg q) value).entries k).address
      ≡ (entry_at file.entries k).address
  address_kept q k = elim (cases_lt k (length file.entries)) [
    | inl inside ↦ ap (λ (entry : Entry). entry.address) (configured_place file q value k inside)
        ∙ configured_address file q value k
    | inr past ↦ ap (λ (entry : Entry). entry.address) (past_same (Cfg q) k past)
  ]

  low_same : (csr : Csr) (i : ℕ) → may_move file csr i ≡ false
      → is_tor (entry_at file.entries i).configuration.matching ≡ true
      → low_address (written file csr value).entries i ≡ low_address file.entries i
  low_same csr i none tor = search (rules, tests, low_kept, address_kept, not_both, or_parts, other_address, eqb-false)

  pub holds_none : (csr : Csr) (i : ℕ) → may_move file csr i ≡ false → holds file.profile csr i ≡ false
  holds_none csr i none = search rules

  pub bytes_kept : (csr : Csr) (i byte : ℕ) → may_move file csr i ≡ false
      → Matches (written file csr value) i byte ↔ Matches file i byte
  bytes_kept csr i byte none = search (rules, tests, entry_kept, holds_none, profile-written, same_bytes, low_same)

-- ---- decisions

least_alike : (P Q : ℕ → Type 0) → ((i : ℕ) → P i → Q i) → ((i : ℕ) → Q i → P i) → (least : Option ℕ)
    → IsLeast P least → IsLeast Q least
least_alike P Q to from least none = search rules

-- entry i matches no byte of the access in either file, or is the same in both
abbrev pub IsSame : (one other : RegisterFile) → Access → ℕ → Type 0
IsSame one other access i = (¬ (Touches one access i) × ¬ (Touches other access i)) ⊎ IsSameEntry one other i

module _ (one other : RegisterFile) (mseccfg : other.mseccfg ≡ one.mseccfg)
    (some : has_entries other ≡ has_entries one) (access : Access)
    (same : (i : ℕ) → IsSame one other access i) where
  touches : (i : ℕ) → Touches one access i → Touches other access i
  touches i touched = elim (same i) [
    | inl clear ↦ absurd (clear.0 touched)
    | inr alike ↦ (touched.0, touched.1, (alike.1 touched.0).1 touched.2)
  ]

  touched_before : (i : ℕ) → Touches other access i → Touches one access i
  touched_before i touched = elim (same i) [
    | inl clear ↦ absurd (clear.1 touched)
    | inr alike ↦ (touched.0, touched.1, (alike.1 touched.0).0 touched.2)
  ]

  decider : (found : Option ℕ) → IsDecider one access found → IsDecider other access found
  decider = least_alike (Touches one access) (Touches other access) touches touched_before

  -- the entry that decides is the same in both files
  alike : (i : ℕ) → IsDecider one access (Some i) → IsSameEntry one other i
  alike i found = elim (same i) [ inl clear ↦ absurd (clear.0 found.0) | inr is ↦ is ]

  pub decided_by : (allowed : Bool) (cause : Cause) → IsDecisionBy one access allowed cause
      → IsDecisionBy other access allowed cause
  decided_by allowed NoMatch h = (decider None h.0, rw (mseccfg, some) h.1)
  decided_by allowed (Split i) h = (
    decider (Some i) h.0,
    (λ covers. h.1 (λ byte inside. ((alike i h.0).1 byte).0 (covers byte inside))),
    h.2,
  )
  decided_by allowed (Rule i) h = (
    decider (Some i) h.0,
    (λ byte inside. ((alike i h.0).1 byte).1 (h.1 byte inside)),
    rw (mseccfg, (alike i h.0).0) h.2,
  )

pub mseccfg_kept : (file : RegisterFile) (csr : Csr) (value : ℕ) → csr ≢ Mseccfg
    → (written file csr value).mseccfg ≡ file.mseccfg
mseccfg_kept file csr value other = search rules

pub others_law : OthersLaw
others_law file csr value = record {
  entries = entry_kept file value csr;
  bytes = bytes_kept file value csr;
  decisions = λ other access clear decision decided.
      let after = written file csr value in
      let same : (i : ℕ) → IsSame file after access i = λ i. elim (cases_Bool (may_move file csr i)) [
        | inl moves ↦ inl (clear i moves)
        | inr stays ↦ inr (
          ap (λ (entry : Entry). entry.configuration) (entry_kept file value csr i (holds_none file value csr i stays)),
          λ byte. bytes_kept file value csr i byte stays,
        )
      ] in
      let some : has_entries after ≡ has_entries file = rw (length-written file csr value) refl in
      decided_by file after (mseccfg_kept file csr value other) some access same decision.allowed decision.cause decided;
}
