-- The names of a band, as they are appended.
use Rattle.std.proofs.Common.{◌≡◌, ◌+◌, ◌<◌, ◌∙◌, ◌++◌, ◌&&◌, Bool, List, ap, append_assoc, drop}
use Rattle.std.proofs.Common.{get_or, length, map, not, sym, true, ℕ}
use Rattle.std.proofs.lemmas.List.{at_drop_more}
use Rattle.pmp_text.specs.MetNames.{meets, named}
use Rattle.pmp_text.specs.Picture.{met_in_band, names_from}
use Rattle.pmp_text.specs.declared.address_name.AddressName.{AddressName}

module _ (names : List AddressName) (first last : ℕ) (start text : List ℕ) where
  -- what was appended so far, and the names of the rest, are all
  abbrev pub AreShown : (is_first : Bool) → (index : ℕ) → Type 0
  AreShown is_first index = (shown : List ℕ) × (text ≡ start ++ shown)
      × (shown ++ names_from is_first (map named (drop index names)) first last
      ≡ names_from true (map named names) first last)

  pub names_grow : (index : ℕ) (none : AddressName) → index < length names → (more : List ℕ) (is_first next : Bool)
      → more ≡ text ++ met_in_band is_first (named (get_or names index none)) first last
      → next ≡ is_first && not (meets (named (get_or names index none)) first last)
      → AreShown is_first index
      → (shown : List ℕ) × (more ≡ start ++ shown)
      × (shown ++ names_from next (map named (drop (index + 1) names)) first last
      ≡ names_from true (map named names) first last)
  names_grow index none less more is_first next grown is (shown, so_far, all) =
      let one = named (get_or names index none) in
      let met = met_in_band is_first one first last in
      let rest = map named (drop (index + 1) names) in (
        shown ++ met,
        grown ∙ ap (λ (l : List ℕ). l ++ met) so_far ∙ append_assoc start shown met,
        ap (λ (next : Bool). (shown ++ met) ++ names_from next rest first last) is
            ∙ append_assoc shown met (names_from (is_first && not (meets one first last)) rest first last)
            ∙ ap (λ (l : List ℕ). shown ++ l) (sym (at_drop_more (λ (l : List AddressName). names_from is_first (map named l) first last)
            names index none less))
            ∙ all,
      )
