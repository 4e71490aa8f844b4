-- The fields of a record that has five, seven or nine, by their places.
use Rattle.std.proofs.Common.{◌≡◌, ℕ, List, [], ◌∷◌, Option, Some, None, refl}
use Rattle.csv.specs.Records.{field_at}
use Rattle.pmp_text.specs.Policies.{NineFields, SevenFields, nine_fields, seven_fields}
use Rattle.pmp_text.specs.Steps.Views.{seven_from}
use Rattle.pmp_text.specs.Traces.{FiveFields, five_fields}

abbrev five_at : Option (List ℕ) → Option (List ℕ) → Option (List ℕ) → Option (List ℕ) → Option (List ℕ)
    → Option (List ℕ) → Option FiveFields
five_at (Some after) (Some mode) (Some kind) (Some start) (Some length) None =
    Some (record { after = after; mode = mode; kind = kind; start = start; length = length })
five_at _ _ _ _ _ _ = None

pub by_places : (fields : List (List ℕ)) → five_fields fields
    ≡ five_at (field_at fields 0) (field_at fields 1) (field_at fields 2) (field_at fields 3) (field_at fields 4)
    (field_at fields 5)
unfolding five_fields field_at
by_places [] = refl
by_places (a ∷ []) = refl
by_places (a ∷ b ∷ []) = refl
by_places (a ∷ b ∷ c ∷ []) = refl
by_places (a ∷ b ∷ c ∷ d ∷ []) = refl
by_places (a ∷ b ∷ c ∷ d ∷ e ∷ []) = refl
by_places (a ∷ b ∷ c ∷ d ∷ e ∷ f ∷ more) = refl

abbrev seven_alone : Option SevenFields → (eighth : Option (List ℕ)) → Option SevenFields
seven_alone seven None = seven
seven_alone seven (Some field) = None

pub by_seven_places : (fields : List (List ℕ)) → seven_fields fields
    ≡ seven_alone (seven_from fields 0) (field_at fields 7)
unfolding seven_fields field_at
by_seven_places [] = refl
by_seven_places (a ∷ []) = refl
by_seven_places (a ∷ b ∷ []) = refl
by_seven_places (a ∷ b ∷ c ∷ []) = refl
by_seven_places (a ∷ b ∷ c ∷ d ∷ []) = refl
by_seven_places (a ∷ b ∷ c ∷ d ∷ e ∷ []) = refl
by_seven_places (a ∷ b ∷ c ∷ d ∷ e ∷ f ∷ []) = refl
by_seven_places (a ∷ b ∷ c ∷ d ∷ e ∷ f ∷ g ∷ []) = refl
by_seven_places (a ∷ b ∷ c ∷ d ∷ e ∷ f ∷ g ∷ h ∷ more) = refl

abbrev nine_at : Option (List ℕ) → Option SevenFields → Option (List ℕ) → (tenth : Option (List ℕ)) → Option NineFields
nine_at (Some name) (Some words) (Some comment) None =
    Some (record { name = name; words = words; comment = comment })
nine_at _ _ _ _ = None

pub by_nine_places : (fields : List (List ℕ)) → nine_fields fields
    ≡ nine_at (field_at fields 0) (seven_from fields 1) (field_at fields 8) (field_at fields 9)
unfolding nine_fields seven_fields field_at
by_nine_places [] = refl
by_nine_places (a ∷ []) = refl
by_nine_places (a ∷ b ∷ []) = refl
by_nine_places (a ∷ b ∷ c ∷ []) = refl
by_nine_places (a ∷ b ∷ c ∷ d ∷ []) = refl
by_nine_places (a ∷ b ∷ c ∷ d ∷ e ∷ []) = refl
by_nine_places (a ∷ b ∷ c ∷ d ∷ e ∷ f ∷ []) = refl
by_nine_places (a ∷ b ∷ c ∷ d ∷ e ∷ f ∷ g ∷ []) = refl
by_nine_places (a ∷ b ∷ c ∷ d ∷ e ∷ f ∷ g ∷ h ∷ []) = refl
by_nine_places (a ∷ b ∷ c ∷ d ∷ e ∷ f ∷ g ∷ h ∷ i ∷ []) = refl
by_nine_places (a ∷ b ∷ c ∷ d ∷ e ∷ f ∷ g ∷ h ∷ i ∷ j ∷ more) = refl
