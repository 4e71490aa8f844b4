-- Texts that grow piece by piece.
use Rattle.std.proofs.Common.{◌≡◌, ℕ, List, [], ◌++◌, Option, None, Some, IfSome, ◌∷◌, ap, ◌∙◌}
use Rattle.arrayvec.specs.ArrayString.{ArrayString}
use Rattle.std.specs.Fmt.{HasWritten, IsPlainFormatter, WritesText}
use Rattle.std.specs.declared.fmt.Formatter.{Formatter}
use Rattle.std.proofs.Output.{has_written_append, has_written_of_eq}
use Rattle.std.proofs.lemmas.Fmt.{contents_after_writes}
use Rattle.std.specs.List.{flat_map}
use Rattle.std.proofs.lemmas.List.{flat_map_more}

module _ {W X : Type 0} (took : W → List ℕ → W → Type 0) (line : X → List ℕ) where
  -- the lines of the items were written
  abbrev pub HasLines : Formatter W → List X → Formatter W → Type 0
  HasLines f items g = IsPlainFormatter f → HasWritten took f (flat_map line items) g

  pub line_more : (f g h : Formatter W) (items : List X) (item : X) → HasLines f items g
      → (IsPlainFormatter g → HasWritten took g (line item) h) → HasLines f (items ++ item ∷ []) h
  line_more f g h items item so_far one plain =
      let before = so_far plain in
      has_written_of_eq _ _ _ _ _ (flat_map_more line [] items item)
      (has_written_append _ _ _ _ _ _ before (one before.plain))

-- a text that was written to an empty line
pub line_written : (line : Option (List ℕ)) (empty full : ArrayString) → empty.bytes ≡ []
    → WritesText (λ before bytes after. after.bytes ≡ before.bytes ++ bytes) empty line full
    → IfSome line (λ bytes. full.bytes ≡ bytes)
line_written None empty full none wrote = tt
line_written (Some bytes) empty full none wrote =
    contents_after_writes _ (λ (line : ArrayString). line.bytes) (λ _ _ _ same. same) empty bytes full wrote
    ∙ ap (λ (l : List ℕ). l ++ bytes) none

-- and from there to an output
pub line_appended : (line : Option (List ℕ)) (full before after : List ℕ) → IfSome line (λ bytes. full ≡ bytes)
    → after ≡ before ++ full → IfSome line (λ text. after ≡ before ++ text)
line_appended None full before after is grown = tt
line_appended (Some text) full before after is grown = grown ∙ ap (λ (l : List ℕ). before ++ l) is
