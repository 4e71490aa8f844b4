-- Lists that grow by what is found of one number more.
use Rattle.std.proofs.Common.{◌≡◌, ◌∙◌, ap, ℕ, ◌+◌, List, [], ◌∷◌, ◌++◌, append-nil}
use Rattle.std.specs.List.{flat_map, range_with_len}
use Rattle.std.proofs.lemmas.List.Concat.{flat_map-append}
use Rattle.pmp_text.proofs.SpacedWords.{range_more}

module _ {A : Type 0} (of_one : ℕ → List A) where
  -- what is found of the first numbers, and of one more
  pub of_range_more : (n : ℕ) → flat_map of_one (range_with_len 0 (n + 1))
      ≡ flat_map of_one (range_with_len 0 n) ++ of_one n
  of_range_more n =
      ap (flat_map of_one) (range_more n) ∙ flat_map-append of_one (range_with_len 0 n) (n ∷ [])
      ∙ ap (λ l. flat_map of_one (range_with_len 0 n) ++ l) (append-nil (of_one n))
