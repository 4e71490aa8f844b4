-- The exchange that adds a batch keeps the history's rule.
use Rattle.std.proofs.Common.{◌≡◌, ℕ, ◌+◌, ◌<◌, ◌==◌, Bool, true, false, List, [], ◌∷◌, ◌++◌, length, refl, ap, sym}
use Rattle.std.proofs.Common.{subst}
use Rattle.std.proofs.Common.{arith, inl, length-append, None}
use Rattle.std.proofs.lemmas.List.{append-nil}
use Rattle.std.proofs.lemmas.Bool.Decides.{nat_tests}
use mathlib.Core.List.{IsPrefix}
use prog.Atomic.{either}
use Rattle.logbook.specs.Pages.{Cell, cell, keeps, no_nib, step, Moves, Goes}
use Rattle.pmp_core.specs.declared.event.Event.{Event}
use Rattle.pmp_share.specs.Batches.{Batches}
use Rattle.pmp_share.specs.History.{IsCounted, Added}
use Rattle.pmp_share.proofs.Fronts.{front_whole}

abbrev pub shown : Batches → Batches
shown log = []

abbrev pub moved : Batches → Batches → ℕ → Type 0
moved xs ys n = Unit {0}

adds_goes : (log seen : Batches) (batch : List Event) (old new : ℕ) → length seen ≡ old → new ≡ old + 1
    → IsPrefix seen log → (b : Bool) → (length log == old) ≡ b
    → Goes IsCounted shown moved 0 (seen, (no_nib, None)) (λ n. either (n == old) new n)
    (Added (step 0 old new batch) (seen, (no_nib, None))) ((length log, true) ∷ (0, true) ∷ []) log
adds_goes log seen batch old new len next pre true is =
    let here : length log ≡ old = grind (arith, nat_tests) in
    let same : seen ≡ log = front_whole seen log pre (omega arith) in
    let n : either (length log == old) new (length log) ≡ length (log ++ batch ∷ []) =
    rw is (omega (arith, length-append log (batch ∷ []))) in (
      keeps,
      batch ∷ [],
      None,
      tt,
      ap (λ (k : ℕ). (k, true) ∷ (0, true) ∷ []) n,
      inl (refl, refl),
      rw is (ap (λ (w : Batches). w ++ batch ∷ []) (sym same)),
    )
adds_goes log seen batch old new len next pre false is =
    let n : either (length log == old) new (length log) ≡ length (log ++ []) =
    rw is (ap length (sym (append-nil log))) in (
      keeps,
      [],
      None,
      tt,
      ap (λ (k : ℕ). (k, true) ∷ (0, true) ∷ []) n,
      inl (refl, refl),
      rw is tt,
    )

-- whatever the book is, the exchange adds the batch to all that was seen, or finds another number
pub adds_moves : (seen : Batches) (batch : List Event) (old new : ℕ) → length seen ≡ old → new ≡ old + 1
    → Moves IsCounted shown moved 0 (seen, (no_nib, None)) (λ n. either (n == old) new n)
    (Added (step 0 old new batch) (seen, (no_nib, None)))
adds_moves seen batch old new len next cs log kept pre away =
    let P : List Cell → Type 0 = λ c. (0 < length c) × ((cell c 0).1 ≡ true)
    × Goes IsCounted shown moved 0 (seen, (no_nib, None)) (λ n. either (n == old) new n)
    (Added (step 0 old new batch) (seen, (no_nib, None))) c log in
    subst P (sym kept) (omega arith, refl, adds_goes log seen batch old new len next pre (length log == old) refl)
