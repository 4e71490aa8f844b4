use Rattle.std.proofs.Common.{◌≡◌, ◌∙◌, refl, sym, ap, ℕ, List, [], ◌∷◌}
use Rattle.pmp_text.specs.MetNames.{Named}
use Rattle.pmp_names.specs.NumberedTexts.{numbered_field, numbered_fields}
use Rattle.pmp_names.specs.Parts.{rest_of}
use Rattle.pmp_names.proofs.numbered_text.next_head.Goals as goal

-- a field without a head stays, and so does one below an empty head
without_heads : (names : List Named) (fields : List (List ℕ)) → numbered_fields names [] fields ≡ fields
without_heads names [] = refl
without_heads names (field ∷ fields) = refl

behind_heads : (names : List Named) (fields : List (List ℕ))
    → numbered_fields names ([] ∷ []) fields ≡ numbered_fields names [] fields
behind_heads names [] = refl
behind_heads names (field ∷ fields) = ap (λ rest. field ∷ rest) (without_heads names fields)

pub returns-in_default-None : goal.returns-in_default-None
returns-in_default-None c = λ names field fields.
    let head = c.split_part.result.0.now in
    ap (λ heads. numbered_fields names heads (field ∷ fields))
    (c.split_part.ensures ∙ ap (λ rest. head ∷ rest_of 44 rest) c.in_default-None.is-1)
    ∙ ap (λ rest. numbered_field names head field ∷ rest) (sym (behind_heads names fields))
