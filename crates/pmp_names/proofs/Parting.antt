-- How a text is parted at its first separator.
use Rattle.std.proofs.Common.{◌≡◌, ◌∙◌, refl, sym, ap, ℕ, suc, ◌+◌, ◌-◌, arith, length, List, [], ◌∷◌, take, drop, Bool, true, false, cond}
use Rattle.std.proofs.Common.{Option, Some, None, option_map}
use Rattle.std.specs.Prelude.{not, ◌&&◌, ◌==◌}
use Rattle.std.specs.List.{onto_first}
use Rattle.std.proofs.lemmas.List.{take_rest}
use Rattle.pmp_names.specs.NumberedTexts.{after, is_quoted, parts_from, parts_of}
use Rattle.pmp_names.specs.declared.numbered_text.Place.{Place}
use Rattle.pmp_names.specs.declared.numbered_text.Place.TheVariants.{Beginning}
use Rattle.pmp_names.specs.Parts.{end_at, end_from}

module _ (separator : ℕ) where
  -- how parts begin, by where the first separator stands
  abbrev pub parted : Option ℕ → (text : List ℕ) → List (List ℕ)
  parted None text = text ∷ []
  parted (Some end) text = take end text ∷ parts_from separator Beginning (drop (suc end) text)

  onto : (byte : ℕ) (text : List ℕ) (found : Option ℕ)
      → onto_first byte (parted found text) ≡ parted (option_map suc found) (byte ∷ text)
  onto byte text None = refl
  onto byte text (Some end) = refl

  parted_at : (place : Place) (is_end : Bool) (byte : ℕ) (text : List ℕ)
      → parts_from separator place text ≡ parted (end_from separator place text) text
      → cond is_end ([] ∷ parts_from separator Beginning text) (onto_first byte (parts_from separator place text))
      ≡ parted (cond is_end (Some 0) (option_map suc (end_from separator place text))) (byte ∷ text)
  parted_at place true byte text same = refl
  parted_at place false byte text same = ap (onto_first byte) same ∙ onto byte text (end_from separator place text)

  parts_parted : (place : Place) (text : List ℕ)
      → parts_from separator place text ≡ parted (end_from separator place text) text
  parts_parted place [] = refl
  parts_parted place (byte ∷ more) =
      parted_at (after place byte) ((byte == separator) && not (is_quoted place)) byte more
      (parts_parted (after place byte) more)

  -- what a text is parted into there, as the program cuts it
  pub parted_some : (text : List ℕ) (end : ℕ) → end_at separator text ≡ Some end
      → parts_of separator text
      ≡ take end text ∷ parts_of separator (take (length text - (end + 1)) (drop (end + 1) text))
  parted_some text end is =
      let next : suc end ≡ end + 1 = omega arith in
      parts_parted Beginning text ∙ ap (λ found. parted found text) is
      ∙ ap (λ behind. take end text ∷ parts_of separator (drop behind text)) next
      ∙ ap (λ rest. take end text ∷ parts_of separator rest) (sym (take_rest text (end + 1)))

  pub parted_none : (text : List ℕ) → end_at separator text ≡ None → parts_of separator text ≡ text ∷ []
  parted_none text is = parts_parted Beginning text ∙ ap (λ found. parted found text) is
