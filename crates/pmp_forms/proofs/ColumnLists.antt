-- Lists of columns from a place on.
use Rattle.std.proofs.Common.{◌≡◌, refl, ℕ, zero, suc, ◌+◌, ◌<◌, add-one, arith, List, [], ◌∷◌, drop, length, map}
use Rattle.pmp_text.specs.declared.lines.row_kind.Column.{Column}
use Rattle.pmp_text.specs.Columns.{column_value}

same_from : (text : List ℕ) (columns : List Column) (i : ℕ) → i < length columns
    → map (λ column. text) (map column_value (drop i columns)) ≡ text ∷ map (λ column. text) (map column_value (drop (suc i) columns))
same_from text [] i inside = absurd (omega (arith, inside))
same_from text (column ∷ columns) zero inside = refl
same_from text (column ∷ columns) (suc i) inside = same_from text columns i (omega (arith, inside))

-- where each column gives the same text, one of them is that of the column at a place
pub same_here : (text : List ℕ) (columns : List Column) (i : ℕ) → i < length columns
    → map (λ column. text) (map column_value (drop i columns)) ≡ text ∷ map (λ column. text) (map column_value (drop (i + 1) columns))
same_here text columns i inside = rw add-one (same_from text columns i inside)
