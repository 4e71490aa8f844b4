-- The parts of a text, one after another.
use Rattle.std.specs.Prelude.{ℕ, suc, List, [], ◌∷◌, not, ◌&&◌, ◌==◌, Option, Some, None, option_map, if◌then◌else◌}
use Rattle.std.proofs.Common.{Bor}
use Rattle.pmp_names.specs.NumberedTexts.{after, is_quoted, parts_of}
use Rattle.pmp_names.specs.declared.numbered_text.Place.{Place}
use Rattle.pmp_names.specs.declared.numbered_text.Place.TheVariants.{Beginning}

-- the position of the first separator outside quotes
abbrev pub end_from : (separator : ℕ) → Place → (text : List ℕ) → Option ℕ
end_from separator place [] = None
end_from separator place (byte ∷ more) =
    if byte == separator && not (is_quoted place) then Some 0
    else option_map suc (end_from separator (after place byte) more)

abbrev pub end_at : (separator : ℕ) (text : List ℕ) → Option ℕ
end_at separator text = end_from separator Beginning text

-- the parts after a separator, if there is one
abbrev pub rest_of : (separator : ℕ) → Option (Bor (List ℕ)) → List (List ℕ)
rest_of separator None = []
rest_of separator (Some rest) = parts_of separator rest.now
