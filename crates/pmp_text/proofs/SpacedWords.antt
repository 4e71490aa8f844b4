-- Words that are parted by one space, written one by one.
use Rattle.std.proofs.Common.{◌≡◌, ℕ, ◌+◌, Bool, true, false, cond, List, [], ◌∷◌, ◌++◌, map, refl, sym, ap, ◌∙◌, arith}
use Rattle.std.proofs.Common.{append_assoc, append-nil}
use Rattle.std.proofs.lemmas.List.{map-append, map-id}
use Rattle.std.proofs.lemmas.List.FromFn.{map-range_with_len_more}
use Rattle.std.proofs.lemmas.List.Elements.{filter-append}
use Rattle.std.proofs.Output.{has_written_append, has_written_of_eq}
use Rattle.std.specs.List.{join_with_byte, filter, range_with_len}
use Rattle.std.specs.Fmt.{HasWritten, IsPlainFormatter}
use Rattle.std.specs.declared.fmt.Formatter.{Formatter}

abbrev pub no_words : List (List ℕ) → Bool
no_words [] = true
no_words (word ∷ words) = false

abbrev pub space_unless : Bool → List ℕ
space_unless is_first = cond is_first [] (32 ∷ [])

joined_more : (words : List (List ℕ)) (word : List ℕ)
    → join_with_byte 32 words ++ (space_unless (no_words words) ++ word) ≡ join_with_byte 32 (words ++ word ∷ [])
joined_more [] word = refl
joined_more (first ∷ []) word = refl
joined_more (first ∷ second ∷ words) word =
    append_assoc first (32 ∷ join_with_byte 32 (second ∷ words)) (32 ∷ word)
    ∙ ap (λ (l : List ℕ). first ++ 32 ∷ l) (joined_more (second ∷ words) word)

some_words : (words : List (List ℕ)) (word : List ℕ) → false ≡ no_words (words ++ word ∷ [])
some_words [] word = refl
some_words (first ∷ words) word = refl

-- the words were written, parted by spaces; `is_first` says that there are none yet
pub record HasWords {W : Type 0} (took : W → List ℕ → W → Type 0) (f g : Formatter W) (is_first : Bool)
    (words : List (List ℕ)) : Type 0 where
  pub written : IsPlainFormatter f → HasWritten took f (join_with_byte 32 words) g
  pub first : is_first ≡ no_words words

module _ {W X : Type 0} (took : W → List ℕ → W → Type 0) (p : X → Bool) (text : X → List ℕ) (f : Formatter W) where
  -- of the items that were looked at, the words of those that pass the test were written
  abbrev pub HasPassed : (g : Formatter W) (is_first : Bool) → List X → Type 0
  HasPassed g is_first items = HasWords took f g is_first (map text (filter p items))

  module _ (g : Formatter W) (is_first : Bool) (items : List X) (item : X) (so_far : HasPassed g is_first items) where
    pub passed_more : p item ≡ true → (h : Formatter W)
        → (IsPlainFormatter g → HasWritten took g (space_unless is_first ++ text item) h)
        → HasPassed h false (items ++ item ∷ [])
    passed_more passes h one =
        let words = map text (filter p items) in
        rw (filter-append p items (item ∷ []), passes, map-append text (filter p items) (item ∷ [])) (record {
          written = λ plain.
              let before = so_far.written plain in
              has_written_of_eq _ _ _ _ _ (joined_more words (text item))
              (has_written_append _ _ _ _ _ _ before (rw so_far.first at (one before.plain)));
          first = some_words words (text item);
        })

    pub not_passed : p item ≡ false → HasPassed g is_first (items ++ item ∷ [])
    not_passed fails = rw (filter-append p items (item ∷ []), fails, append-nil (filter p items)) so_far

pub range_more : (n : ℕ) → range_with_len 0 (n + 1) ≡ range_with_len 0 n ++ n ∷ []
range_more n = sym (map-id (range_with_len 0 (n + 1))) ∙ map-range_with_len_more (λ (i : ℕ). i) 0 n n (omega arith)
    ∙ ap (λ (l : List ℕ). l ++ n ∷ []) (map-id (range_with_len 0 n))
