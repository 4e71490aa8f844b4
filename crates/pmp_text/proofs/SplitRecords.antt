-- The records of bytes, byte by byte, from any place inside a record on.
use Rattle.std.proofs.Common.{◌≡◌, ℕ, Bool, true, false, cond, List, [], ◌∷◌, ◌++◌}
use Rattle.std.proofs.Common.{refl}
use Rattle.std.specs.Bool.{MatchBool}
use Rattle.std.specs.Prelude.{nat_eq, ⊤}
use Rattle.csv.specs.declared.parser.Action.{Action}
use Rattle.csv.specs.declared.parser.Action.TheVariants as act
use Rattle.csv.specs.declared.parser.State.{State}
use Rattle.csv.specs.declared.parser.State.TheVariants as st
use Rattle.csv.specs.Machine.{step, is_end, ends_at_end, fields_after, field_after, in_field, start_field, start_record}
use Rattle.csv.specs.Reading.{default_config}
use Rattle.pmp_text.specs.LongTraces.{Records}

-- the state and the action of a byte, with the defaults
abbrev pub turn : State → ℕ → State × Action
turn s c = step default_config s c

-- the records of bytes, where these fields and the bytes of the field at hand were read of the first one
unfoldable pub split : State → List (List ℕ) → List ℕ → List ℕ → Records
split s fields field [] = cond (ends_at_end s) ((fields ++ (field ∷ [])) ∷ []) []
split s fields field (c ∷ rest) = cond (is_end (turn s c).1)
    (fields_after (turn s c).1 fields field ∷ split (turn s c).0 [] [] rest)
    (split (turn s c).0 (fields_after (turn s c).1 fields field) (field_after (turn s c).1 c field) rest)

-- between records nothing was read of the next one, and no comment is begun
abbrev pub Fits : State → List (List ℕ) → List ℕ → Type 0
Fits st.StartRecord fields field = (fields ≡ []) × (field ≡ [])
Fits st.AfterCr fields field = (fields ≡ []) × (field ≡ [])
Fits st.InComment fields field = ⊥
Fits _ fields field = ⊤

-- what a byte comes to fits
abbrev pub FitsNext : List (List ℕ) → List ℕ → ℕ → State × Action → Type 0
FitsNext fields field c next = MatchBool (is_end next.1) (Fits next.0 [] [])
    (Fits next.0 (fields_after next.1 fields field) (field_after next.1 c field))

module _ (fields : List (List ℕ)) (field : List ℕ) (c : ℕ) where
  in_a_field : (comma ends returns : Bool) → FitsNext fields field c
      (cond comma (st.StartField, act.EndField)
      (cond ends (cond returns st.AfterCr st.StartRecord, act.EndRecord) (st.InField, act.Copy)))
  in_a_field true ends returns = tt
  in_a_field false true true = (refl, refl)
  in_a_field false true false = (refl, refl)
  in_a_field false false returns = tt

  at_a_field : (quote : Bool) → FitsNext fields field c (cond quote (st.InQuoted, act.Skip) (in_field default_config c))
  at_a_field true = tt
  at_a_field false = in_a_field (nat_eq c 44) _ (nat_eq c 13)

  at_a_record : (ends : Bool) → (fields ≡ []) × (field ≡ [])
      → FitsNext fields field c (cond ends (st.StartRecord, act.Skip) (start_field default_config c))
  at_a_record true fits = fits
  at_a_record false fits = at_a_field (nat_eq c 34)

  behind_cr : (feeds : Bool) → (fields ≡ []) × (field ≡ [])
      → FitsNext fields field c (cond feeds (st.StartRecord, act.Skip) (start_record default_config c))
  behind_cr true fits = fits
  behind_cr false fits = at_a_record _ fits

  in_quotes : (quote : Bool) → FitsNext fields field c (cond quote (st.AfterQuote, act.Skip) (st.InQuoted, act.Copy))
  in_quotes true = tt
  in_quotes false = tt

  behind_quote : (quote : Bool)
      → FitsNext fields field c (cond quote (st.InQuoted, act.Copy) (in_field default_config c))
  behind_quote true = tt
  behind_quote false = in_a_field (nat_eq c 44) _ (nat_eq c 13)

  pub fits_on : (s : State) → Fits s fields field → FitsNext fields field c (turn s c)
  fits_on st.StartRecord fits = at_a_record _ fits
  fits_on st.StartField fits = at_a_field (nat_eq c 34)
  fits_on st.InField fits = in_a_field (nat_eq c 44) _ (nat_eq c 13)
  fits_on st.InQuoted fits = in_quotes (nat_eq c 34)
  fits_on st.InEscape fits = tt
  fits_on st.AfterQuote fits = behind_quote (nat_eq c 34)
  fits_on st.InComment fits = absurd fits
  fits_on st.AfterCr fits = behind_cr (nat_eq c 10) fits
