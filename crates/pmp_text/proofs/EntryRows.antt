-- The rows of entries, one after another.
use Rattle.std.proofs.Common.{◌≡◌, ℕ, ◌+◌, List, ◌++◌, sym, ap, ◌∙◌}
use Rattle.std.specs.List.{flat_map, range_with_len}
use Rattle.std.proofs.lemmas.List.{flat_map_more}
use Rattle.pmp_text.proofs.SpacedWords.{range_more}

pub rows_grow : (row : ℕ → List ℕ) (before text longer : List ℕ) (count : ℕ)
    → longer ≡ text ++ row count → text ≡ before ++ flat_map row (range_with_len 0 count)
    → longer ≡ before ++ flat_map row (range_with_len 0 (count + 1))
rows_grow row before text longer count one so_far =
    one ∙ ap (λ (l : List ℕ). l ++ row count) so_far ∙ flat_map_more row before (range_with_len 0 count) count
    ∙ ap (λ places. before ++ flat_map row places) (sym (range_more count))
