-- The rows that ask for the publications that are done.
use Rattle.std.proofs.Common.{◌≡◌, ◌≢◌, ℕ, zero, suc, ◌<◌, ◌≤◌, ◌==◌, Bool, true, false, List, [], ◌∷◌}
use Rattle.std.proofs.Common.{length, take, drop, refl, ap, arith}
use Rattle.std.specs.Prelude.{Any}
use Rattle.std.specs.List.{AllWithin, HoldsAt}
use Rattle.std.proofs.lemmas.Bool.Decides.{nat_tests}
use Rattle.pmp_text.specs.declared.trace.TraceRow.{TraceRow}
use Rattle.pmp_audit.specs.Rounds.{asking}

pub asking_is : (after : ℕ) (rows : List TraceRow) (count : ℕ)
    → count ≤ length rows → AllWithin (λ row. row.after ≡ after) rows 0 count
    → (count < length rows → HoldsAt (λ row. row.after ≢ after) rows count) → take count rows ≡ asking after rows
asking_is after [] zero within before at = refl
asking_is after [] (suc count) within before at = absurd (omega arith)
asking_is after (row ∷ rows) zero within before at =
    let other : row.after ≢ after = at (omega arith) row in
    let test : (row.after == after) ≡ false = grind (arith, nat_tests) in
    rw test refl
asking_is after (row ∷ rows) (suc count) within before at =
    let same : row.after ≡ after = before 0 row (omega arith) (omega arith) in
    let test : (row.after == after) ≡ true = grind (arith, nat_tests) in
    let rest = asking_is after rows count (omega arith) (λ k d low high. before (suc k) d (omega arith) (omega arith))
    (λ more d. at (omega arith) d) in
    rw test (ap (λ l. row ∷ l) rest)

-- what holds of some item behind the first ones holds of some item
any_more : {A : Type 0} (P : A → Type 0) (first : A) (items : List A) → Any P items → Any P (first ∷ items)
any_more P first items (k, item, inside, at, holds) = (suc k, item, omega arith, at, holds)

any_dropped : {A : Type 0} (P : A → Type 0) (count : ℕ) (items : List A) → Any P (drop count items) → Any P items
any_dropped P zero items some = some
any_dropped P (suc count) [] some = some
any_dropped P (suc count) (item ∷ items) some = any_more P item items (any_dropped P count items some)

same_by : (left right : ℕ) (is : Bool) → (left == right) ≡ is → (is ≡ false → ⊥) → left ≡ right
same_by left right true test is_not = grind (arith, nat_tests)
same_by left right false test is_not = absurd (is_not refl)

-- where a row is at the front that asks for just so many publications, some row does
first_asks : (after : ℕ) (rows : List TraceRow) → (asking after rows ≡ [] → ⊥) → Any (λ row. row.after ≡ after) rows
first_asks after [] some = absurd (some refl)
first_asks after (row ∷ rows) some =
    let same = same_by row.after after (row.after == after) refl (λ (test : (row.after == after) ≡ false).
    some (rw test refl)) in
    (0, row, omega arith, refl, same)

pub some_asks : (after count : ℕ) (rows : List TraceRow) → (asking after (drop count rows) ≡ [] → ⊥)
    → Any (λ row. row.after ≡ after) rows
some_asks after count rows some = any_dropped _ count rows (first_asks after (drop count rows) some)
