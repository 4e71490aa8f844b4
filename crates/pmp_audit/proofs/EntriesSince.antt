-- Since when an entry is frozen, and held, batch by batch.
use Rattle.std.proofs.Common.{◌≡◌, ℕ, zero, suc, ◌+◌, ◌-◌, ◌<◌, ◌≤◌, Bool, true, false, ◌&&◌, List, [], ◌∷◌, ◌++◌, length}
use Rattle.std.proofs.Common.{fold, take, drop, Option, None, Some, get_or, replicate, refl, sym, ap, subst, ◌∙◌}
use Rattle.std.proofs.Common.{inl, inr, arith}
use Rattle.std.specs.List.{list_all}
use Rattle.std.proofs.lemmas.Bool.{and_parts, cases_lt, false≢true}
use Rattle.std.proofs.lemmas.List.{take-append-le, drop-append-le, take-append-drop, take-take, drop-take}
use Rattle.std.proofs.lemmas.List.{take_all, drop_all}
use Rattle.std.proofs.lemmas.List.{append-nil, length-append, length-take-le, take_more}
use Rattle.std.proofs.lemmas.List.Sums.{fold-append}
use Rattle.std.proofs.lemmas.List.Folds.{list_all-append}
use Rattle.pmp_core.specs.declared.event.Event.{Event}
use Rattle.pmp_core.specs.Decision.{IsLeast}
use Rattle.pmp_core.specs.RegisterFile.{RegisterFile, IsLegal, is_frozen, is_held}
use Rattle.pmp_core.specs.RegisterWrite.{step}
use Rattle.pmp_core.specs.Histories.{joined}
use Rattle.pmp_core.specs.LockLaw.{StaysFrozen}
use Rattle.pmp_core.specs.Histories.{is_write}
use Rattle.pmp_core.specs.ProtectionLaw.{ProtectedLaw, StaysProtected}
use Rattle.pmp_core.proofs.Held.{held_still}
use Rattle.pmp_core.proofs.Locks.{lock_law}
use Rattle.pmp_core.proofs.Legal.{length-fold, replay_legal_from}
use Rattle.pmp_share.proofs.JournalFacts.{joined-append}
use Rattle.pmp_text.specs.declared.lines.since.Since.{Since}
use Rattle.pmp_text.specs.EntryRows.{no_since}
use Rattle.pmp_text.specs.Reports.{file_behind}
use Rattle.pmp_audit.specs.Laws.{IsKept, Protects, SinceLaw}
use Rattle.pmp_audit.specs.Since.{IsFrom}
use Rattle.pmp_audit.specs.SinceStep.{since_after}

-- ---- batches

-- the file after all batches, from the one after the first k on
file_split : (start : RegisterFile) (k : ℕ) (batches : List (List Event))
    → file_behind start batches ≡ fold step (file_behind start (take k batches)) (joined (drop k batches))
file_split start k batches =
    ap (file_behind start) (sym (take-append-drop k batches))
    ∙ ap (fold step (start)) (joined-append (take k batches) (drop k batches))
    ∙ fold-append step start (joined (take k batches)) (joined (drop k batches))

-- so many batches, counted from the first k on
file_from : (start : RegisterFile) (k done : ℕ) (batches : List (List Event)) → k ≤ done
    → file_behind start (take done batches) ≡ fold step (file_behind start (take k batches)) (joined (drop k (take done batches)))
file_from start k done batches within =
    file_split start k (take done batches)
    ∙ ap (λ front. fold step (file_behind start front) (joined (drop k (take done batches))))
    (take-take k done batches within)

-- a beginning of batches that hold no reset holds none
writes_in_front : (batches : List (List Event)) (count : ℕ) → list_all is_write (joined batches) ≡ true
    → list_all is_write (joined (take count batches)) ≡ true
writes_in_front batches count writes =
    let front = joined (take count batches) in
    let rest = joined (drop count batches) in
    let parts : joined batches ≡ front ++ rest = ap joined (sym (take-append-drop count batches))
    ∙ joined-append (take count batches) (drop count batches) in
    (and_parts _ _ (sym (list_all-append is_write front rest) ∙ ap (list_all is_write) (sym parts) ∙ writes)).0

-- no write ends it
abbrev pub Lasts : (RegisterFile → ℕ → Bool) → Type 0
Lasts is_so = (file : RegisterFile) (i : ℕ) (events : List Event) → is_so file i ≡ true
    → list_all is_write events ≡ true → is_so (fold step file events) i ≡ true

pub frozen_lasts : Lasts is_frozen
frozen_lasts file i events frozen writes = (lock_law file i events frozen writes).frozen

-- from the first k batches to so many of them there are writes alone
writes_between : (batches : List (List Event)) (k done : ℕ) → k ≤ done
    → list_all is_write (joined (drop k batches)) ≡ true
    → list_all is_write (joined (drop k (take done batches))) ≡ true
writes_between batches k done within writes =
    let taken : drop k (take done batches) ≡ take (done - k) (drop k batches) =
    ap (λ (m : ℕ). drop k (take m batches)) (omega arith) ∙ drop-take k (done - k) batches in
    rw taken (writes_in_front (drop k batches) (done - k) writes)

module _ (is_so : RegisterFile → ℕ → Bool) (lasts : Lasts is_so) where
  -- it is so after all batches
  so_still : (start : RegisterFile) (batches : List (List Event)) (i k : ℕ) → IsFrom is_so start batches i k
      → is_so (file_behind start batches) i ≡ true
  so_still start batches i k from =
      ap (λ file. is_so file i) (file_split start k batches)
      ∙ lasts (file_behind start (take k batches)) i (joined (drop k batches)) from.after from.writes

  -- the number of all batches is such a number where the entry is so in the end
  so_by_all : (start : RegisterFile) (batches : List (List Event)) (i k : ℕ) → length batches ≤ k
      → is_so (file_behind start batches) i ≡ true → IsFrom is_so start batches i k
  so_by_all start batches i k past so = record {
    after = rw (take_all k batches past) so;
    writes = rw (drop_all k batches past) refl;
  }

  -- the least such number is no greater
  least_within : (start : RegisterFile) (batches : List (List Event)) (i k : ℕ) → IsLeast (IsFrom is_so start batches i) (Some k)
      → k ≤ length batches
  least_within start batches i k least =
      let last = length batches in
      elim (cases_lt last k) [
        | inl beyond ↦
            let still = so_still start batches i k least.0 in
            absurd (least.1 last beyond (so_by_all start batches i last (omega arith) still))
        | inr within ↦ within
      ]

  pub not_so : (start : RegisterFile) (batches : List (List Event)) (i : ℕ) (so : Bool) → is_so (file_behind start batches) i ≡ so
      → IsLeast (IsFrom is_so start batches i) None → is_so (file_behind start batches) i ≡ false
  not_so start batches i true so never =
      absurd (never (length batches) (so_by_all start batches i (length batches) (omega arith) so))
  not_so start batches i false so never = so

  -- ---- one batch more

  module _ (start : RegisterFile) (batches : List (List Event)) (batch : List Event) (i : ℕ) where
    abbrev more : List (List Event)
    more = batches ++ batch ∷ []

    writes_behind : (k : ℕ) → k ≤ length batches → list_all is_write (joined (drop k more))
        ≡ (list_all is_write (joined (drop k batches)) && list_all is_write batch)
    writes_behind k within =
        ap (λ rest. list_all is_write (joined rest)) (drop-append-le k batches (batch ∷ []) within)
        ∙ ap (list_all is_write) (joined-append (drop k batches) (batch ∷ [])
        ∙ ap (λ (events : List Event). joined (drop k batches) ++ events) (append-nil batch))
        ∙ list_all-append is_write (joined (drop k batches)) batch

    from_before : (k : ℕ) → k ≤ length batches → list_all is_write batch ≡ true → IsFrom is_so start batches i k
        → IsFrom is_so start more i k
    from_before k within writes from = record {
      after = rw (take-append-le k batches (batch ∷ []) within) from.after;
      writes = rw (writes_behind k within, from.writes, writes) refl;
    }

    to_before : (k : ℕ) → k ≤ length batches → IsFrom is_so start more i k
        → IsFrom is_so start batches i k × (list_all is_write batch ≡ true)
    to_before k within from =
        let both_write = and_parts _ _ (rw (writes_behind k within) at from.writes) in (
          record {
            after = rw (take-append-le k batches (batch ∷ []) within) at from.after;
            writes = both_write.0;
          },
          both_write.1,
        )

    by_tests : (before : Option ℕ) (so writes : Bool) → is_so (file_behind start more) i ≡ so
        → list_all is_write batch ≡ writes → IsLeast (IsFrom is_so start batches i) before
        → IsLeast (IsFrom is_so start more i) (since_after before so writes (length batches + 1))
    by_tests before false writes ended tested since =
        λ k from. false≢true (sym ended ∙ so_still start more i k from)
    by_tests before true false so tested since = (
      so_by_all start more i (length batches + 1) (omega (arith, length-append batches (batch ∷ []))) so,
      λ k below from. false≢true (sym tested ∙ (to_before k (omega arith) from).1),
    )
    by_tests None true true so tested since = (
      so_by_all start more i (length batches + 1) (omega (arith, length-append batches (batch ∷ []))) so,
      λ k below from. since k (to_before k (omega arith) from).0,
    )
    by_tests (Some first) true true so tested since =
        let within = least_within start batches i first since in (
          from_before first within tested since.0,
          λ k below from. since.1 k below (to_before k (omega arith) from).0,
        )

    since-push : (before : Option ℕ) → IsLeast (IsFrom is_so start batches i) before → IsLeast (IsFrom is_so start more i)
        (since_after before (is_so (file_behind start more) i) (list_all is_write batch) (length batches + 1))
    since-push before since =
        by_tests before (is_so (file_behind start more) i) (list_all is_write batch) refl refl since

  -- the same over a list of batches, by what was read of the next one
  pub since_more : (start : RegisterFile) (batches : List (List Event)) (index i : ℕ) (before after : Option ℕ) (file : RegisterFile)
      (writes : Bool) → index < length batches → file ≡ file_behind start (take (index + 1) batches)
      → writes ≡ list_all is_write (get_or batches index [])
      → after ≡ since_after before (is_so file i) writes (index + 1)
      → IsLeast (IsFrom is_so start (take index batches) i) before
      → IsLeast (IsFrom is_so start (take (index + 1) batches) i) after
  since_more start batches index i before after file writes within file_is writes_are after_is since =
      let batch = get_or batches index [] in
      let From : List (List Event) → ℕ → Type 0 = λ more done. IsLeast (IsFrom is_so start more i)
      (since_after before (is_so (file_behind start more) i) (list_all is_write batch) done) in
      let pushed = since-push start (take index batches) batch i before since in
      let counted = length-take-le index batches (omega arith) in
      rw (after_is, file_is, writes_are)
      (subst (λ more. From more (index + 1)) (sym (take_more batches index [] within))
      (subst (λ (m : ℕ). From (take index batches ++ batch ∷ []) (m + 1)) counted pushed))

-- before the first batch: since 0 where the entry is so, else not at all
module _ (is_so : RegisterFile → ℕ → Bool) (start : RegisterFile) (i : ℕ) where
  none_yet : (so : Bool) → is_so start i ≡ so → IsLeast (IsFrom is_so start [] i) (since_after None so true 0)
  none_yet true is = (record { after = is; writes = refl }, λ k below from. absurd (omega arith))
  none_yet false is = λ k from. false≢true (sym is
      ∙ (rw (take_all {A = List Event} k [] (omega arith)) at from.after))

  pub since_first : (since : Option ℕ) → since ≡ since_after None (is_so start i) true 0
      → IsLeast (IsFrom is_so start [] i) since
  since_first since is = rw is (none_yet (is_so start i) refl)

pub nothing_at : (count i : ℕ) → get_or (replicate {A = Since} count no_since) i no_since ≡ no_since
nothing_at zero i = refl
nothing_at (suc count) zero = refl
nothing_at (suc count) (suc i) = nothing_at count i

-- ---- the law

module _ (protects : ProtectedLaw) (start : RegisterFile) (legal : IsLegal start) (batches : List (List Event)) (i : ℕ) where
  abbrev file_done : ℕ → RegisterFile
  file_done k = file_behind start (take k batches)

  is_kept : (since : Option ℕ) → IsLeast (IsFrom is_frozen start batches i) since → IsKept start batches i since
  is_kept None never = not_so is_frozen frozen_lasts start batches i (is_frozen (file_behind start batches) i) refl never
  is_kept (Some k) since = λ done within.
      let between = joined (drop k (take done batches)) in
      subst (λ later. StaysFrozen (file_done k) later i) (sym (file_from start k done batches within))
      (lock_law (file_done k) i between since.0.after (writes_between batches k done within since.0.writes))

  does_protect : (since : Option ℕ) → IsLeast (IsFrom is_held start batches i) since → Protects start batches i since
  does_protect None never = not_so is_held held_still start batches i (is_held (file_behind start batches) i) refl never
  does_protect (Some k) since = λ done within.
      let between = joined (drop k (take done batches)) in
      subst (λ later. StaysProtected (file_done k) later i) (sym (file_from start k done batches within))
      (protects (file_done k) i between (replay_legal_from start legal (joined (take k batches))) since.0.after
      (writes_between batches k done within since.0.writes))

pub since_law : ProtectedLaw → SinceLaw
since_law protects start batches i since lawful is = (
  is_kept protects start lawful batches i since.frozen is.frozen,
  does_protect protects start lawful batches i since.held is.held,
)

-- ---- how many entries there are

-- the file has as many entries as the one at the start
pub same_entries : (start : RegisterFile) → IsLegal start → (batches : List (List Event)) (file : RegisterFile)
    → file ≡ file_behind start batches → length file.entries ≡ start.profile.entries
same_entries start legal batches file is = rw is (length-fold start legal.count (joined batches) ∙ legal.count)
