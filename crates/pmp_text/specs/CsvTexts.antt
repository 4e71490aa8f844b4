-- Rows of CSV, one after another.
use Rattle.std.proofs.Common.{◌≡◌, ℕ, List, [], ◌∷◌, ◌++◌, sym, ap, ◌∙◌, append_assoc, append-nil}
use Rattle.std.proofs.lemmas.Grind.{flat_map-append}
use Rattle.pmp_text.specs.Cells.{RowValue, csv_line, csv_text}

pub one_text : (row : RowValue) → csv_text (row ∷ []) ≡ csv_line row.cells
one_text row = append-nil (csv_line row.cells)

pub both_texts : (one other : List RowValue) (first second third : List ℕ) → second ≡ first ++ csv_text one
    → third ≡ second ++ csv_text other → third ≡ first ++ csv_text (one ++ other)
both_texts one other first second third start end =
    end ∙ ap (λ (l : List ℕ). l ++ csv_text other) start ∙ append_assoc first (csv_text one) (csv_text other)
    ∙ ap (λ (l : List ℕ). first ++ l) (sym (flat_map-append (λ row. csv_line row.cells) one other))
