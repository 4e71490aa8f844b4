-- Rows behind the name of a hart, and before the names that their ranges have.
use Rattle.std.specs.Prelude.{ℕ, List, [], ◌∷◌, ◌++◌, codes, Option, Some, None}
use Rattle.pmp_text.specs.Cells.{RowValue, Word}
use Rattle.pmp_text.specs.Columns.{end_under}
use Rattle.pmp_text.specs.MetNames.{Named, met_names}

-- a hart's name as the first cell, if there is one
abbrev pub with_hart : Option (List ℕ) → RowValue → RowValue
with_hart None row = row
with_hart (Some hart) row = record { kind = row.kind; cells = Word hart ∷ row.cells }

abbrev pub names_between : List Named → (first last : Option ℕ) → List ℕ
names_between names (Some first) (Some last) = met_names names first last
names_between names first last = []

-- the names that a row's range overlaps, if it has one
abbrev pub met_in : List Named → RowValue → List ℕ
met_in names row = names_between names (end_under (codes "first") row) (end_under (codes "last") row)

-- these names as the last cell, if names are given
abbrev pub with_names : Option (List Named) → RowValue → RowValue
with_names None row = row
with_names (Some names) row = record { kind = row.kind; cells = row.cells ++ Word (met_in names row) ∷ [] }

abbrev pub whole : (hart : Option (List ℕ)) → (names : Option (List Named)) → RowValue → RowValue
whole hart names row = with_hart hart (with_names names row)
