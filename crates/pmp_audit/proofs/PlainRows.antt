-- Rows of words without quotes are read as they are written.
use Rattle.std.proofs.Common.{◌≡◌, ℕ, false, List, [], ◌∷◌, ◌++◌, Some, refl, sym, ap, ◌∙◌, append_assoc}
use Rattle.std.specs.Prelude.{⊤}
use Rattle.csv.specs.declared.parser.State.TheVariants as st
use Rattle.csv.specs.Machine.{next_record}
use Rattle.csv.specs.Reading.{default_config}
use Rattle.csv.specs.Writing.{default_writer, fields_text, is_blank, needs_quotes, row_text}
use Rattle.csv.proofs.RoundTrip.{read-write-many}
use Rattle.pmp_text.specs.Reports.{fields_after}

-- no byte of the word calls for quotes
abbrev pub Plain : List ℕ → Type 0
Plain word = needs_quotes default_writer word ≡ false

abbrev pub ArePlain : List (List ℕ) → Type 0
ArePlain [] = ⊤
ArePlain (word ∷ words) = Plain word × ArePlain words

fields_same : (words : List (List ℕ)) (tail : List ℕ) → ArePlain words
    → fields_text default_writer words ++ (10 ∷ tail) ≡ fields_after words ++ tail
unfolding fields_text
fields_same [] tail plain = refl
fields_same (word ∷ words) tail (plain, more) =
    rw plain (ap (λ (l : List ℕ). 44 ∷ l) (append_assoc word (fields_text default_writer words) (10 ∷ tail)
    ∙ ap (λ (l : List ℕ). word ++ l) (fields_same words tail more)
    ∙ sym (append_assoc word (fields_after words) tail)))

module _ (first next : List ℕ) (more : List (List ℕ)) (tail : List ℕ) (plain : ArePlain (first ∷ next ∷ more)) where
  row_same : row_text default_writer (first ∷ next ∷ more) ++ tail ≡ (first ++ fields_after (next ∷ more)) ++ tail
  unfolding is_blank
  row_same =
      let rest = fields_text default_writer (next ∷ more) in
      rw (plain.0) (append_assoc (first ++ rest) (10 ∷ []) tail ∙ append_assoc first rest (10 ∷ tail)
      ∙ ap (λ (l : List ℕ). first ++ l) (fields_same (next ∷ more) tail plain.1)
      ∙ sym (append_assoc first (fields_after (next ∷ more)) tail))

  -- a row of two words or more is one record
  pub row_read : next_record default_config st.StartRecord [] [] ((first ++ fields_after (next ∷ more)) ++ tail)
      ≡ Some (first ∷ next ∷ more, st.StartRecord, tail)
  row_read = ap (next_record default_config st.StartRecord [] []) (sym row_same) ∙ read-write-many first next more tail
