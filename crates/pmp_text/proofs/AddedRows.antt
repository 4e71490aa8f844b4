-- Rows that are added one after another.
use Rattle.std.proofs.Common.{◌≡◌, ℕ, ◌+◌, ◌<◌, List, [], ◌∷◌, ◌++◌, map, length, take, get_or, ap, ◌∙◌}
use Rattle.std.specs.Prelude.{Result, Ok, Err, OnErr}
use Rattle.std.proofs.lemmas.List.{take_more, map-append}
use Rattle.std.specs.List.{range_with_len}
use Rattle.pmp_text.specs.Cells.{AddsSome, RowValue}
use Rattle.pmp_text.proofs.SpacedWords.{range_more}

map_more : {X : Type 0} (row : X → RowValue) (items : List X) (i : ℕ) (none : X) → i < length items
    → map row (take (i + 1) items) ≡ map row (take i items) ++ row (get_or items i none) ∷ []
map_more row items i none inside =
    ap (map row) (take_more items i none inside) ∙ map-append row (take i items) (get_or items i none ∷ [])

module _ {A : Type 0} (Adds : List RowValue → A → A → Type 0)
    (both : (one other : List RowValue) (first second third : A) → Adds one first second → Adds other second third
    → Adds (one ++ other) first third) where
  -- those of one item more
  pub one_more : {X : Type 0} (row : X → RowValue) (items : List X) (i : ℕ) (none : X) (first second third : A)
      → i < length items → Adds (map row (take i items)) first second
      → Adds (row (get_or items i none) ∷ []) second third → Adds (map row (take (i + 1) items)) first third
  one_more row items i none first second third inside so_far more =
      rw (map_more row items i none inside) (both _ _ first second third so_far more)

  -- that of one place more
  pub one_more_place : (row : ℕ → RowValue) (i : ℕ) (first second third : A)
      → Adds (map row (range_with_len 0 i)) first second → Adds (row i ∷ []) second third
      → Adds (map row (range_with_len 0 (i + 1))) first third
  one_more_place row i first second third so_far more =
      rw (range_more i, map-append row (range_with_len 0 i) (i ∷ [])) (both _ _ first second third so_far more)

  -- what fails after some leaves these
  pub left_some : {T E : Type 0} (result : Result T E) (rows : List RowValue) (first second third : A)
      → Adds rows first second → Adds [] second third
      → OnErr result ((some : List RowValue) × Adds some first third)
  left_some (Ok x) rows first second third so_far none = tt
  left_some (Err e) rows first second third so_far none = (rows ++ [], both rows [] first second third so_far none)

  -- and so does what fails after some, and adds some
  pub some_and_some : {T E : Type 0} (result : Result T E) (first second third : A) → AddsSome Adds first second
      → AddsSome Adds second third → OnErr result (AddsSome Adds first third)
  some_and_some (Ok x) first second third so_far more = tt
  some_and_some (Err e) first second third (some, so_far) (others, more) =
      (some ++ others, both some others first second third so_far more)

-- what goes back leaves none of them
pub left_none : {A T E : Type 0} (Adds : List RowValue → A → A → Type 0) (result : Result T E) (first second third : A)
    → ((rows : List RowValue) → Adds rows first second → Adds [] first third)
    → OnErr result ((rows : List RowValue) × Adds rows first second) → OnErr result (Adds [] first third)
left_none Adds (Ok x) first second third back some = tt
left_none Adds (Err e) first second third back (rows, added) = back rows added
