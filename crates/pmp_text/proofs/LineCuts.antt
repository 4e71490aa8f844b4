-- Bytes that end at a line's end: their records are those of a text that goes on with others, but for an open quote,
-- and then the last one has a line end in a field.
use Rattle.std.proofs.Common.{◌≡◌, ℕ, ◌⊎◌, Bool, true, false, cond, List, [], ◌∷◌, ◌++◌}
use Rattle.std.proofs.Common.{refl, sym, ap, ◌∙◌, inl, inr}
use Rattle.std.specs.Bool.{MatchBool}
use Rattle.std.specs.Prelude.{◌||◌, nat_eq}
use Rattle.std.specs.List.{list_any}
use Rattle.std.proofs.lemmas.List.Folds.{list_any-append}
use Rattle.std.proofs.lemmas.Bool.{cond-true, cond-false, eqb-true}
use Rattle.csv.specs.declared.parser.Action.{Action}
use Rattle.csv.specs.declared.parser.Action.TheVariants as act
use Rattle.csv.specs.declared.parser.State.{State}
use Rattle.csv.specs.declared.parser.State.TheVariants as st
use Rattle.csv.specs.Machine.{after_end, is_end, ends_at_end, fields_after, field_after, in_field, start_field}
use Rattle.csv.specs.Reading.{default_config}
use Rattle.pmp_text.specs.LongTraces.{Records}
use Rattle.pmp_text.specs.Tables.{is_line_end, is_broken}
use Rattle.pmp_text.proofs.SplitRecords.{turn, split, Fits, fits_on}

-- ---- one byte

module _ (s : State) (fields : List (List ℕ)) (field : List ℕ) (c : ℕ) (rest : List ℕ) where
  one_read : is_end (turn s c).1 ≡ true → split s fields field (c ∷ rest)
      ≡ fields_after (turn s c).1 fields field ∷ split (turn s c).0 [] [] rest
  unfolding split
  one_read e = cond-true _ _ _ e

  reads_on : is_end (turn s c).1 ≡ false → split s fields field (c ∷ rest)
      ≡ split (turn s c).0 (fields_after (turn s c).1 fields field) (field_after (turn s c).1 c field) rest
  unfolding split
  reads_on e = cond-false _ _ _ e

no_bytes : (s : State) (fields : List (List ℕ)) (field : List ℕ) → split s fields field []
    ≡ cond (ends_at_end s) ((fields ++ (field ∷ [])) ∷ []) []
unfolding split
no_bytes s fields field = refl

-- LF behind CR is one line end with it, and a line end by itself says nothing
same_turn : (c : ℕ) → turn st.AfterCr c ≡ turn st.StartRecord c
same_turn c = by (nat_eq c 13) (nat_eq c 10) (start_field default_config c)
  where
    by : (returns feeds : Bool) (other : State × Action)
        → cond feeds (st.StartRecord, act.Skip) (cond (returns || feeds) (st.StartRecord, act.Skip) other)
        ≡ cond (returns || feeds) (st.StartRecord, act.Skip) other
    by true true other = refl
    by true false other = refl
    by false true other = refl
    by false false other = refl

pub behind_cr : (fields : List (List ℕ)) (field bytes : List ℕ)
    → split st.AfterCr fields field bytes ≡ split st.StartRecord fields field bytes
unfolding split
behind_cr fields field [] = refl
behind_cr fields field (c ∷ rest) = ap (λ (next : State × Action). cond (is_end next.1)
    (fields_after next.1 fields field ∷ split next.0 [] [] rest)
    (split next.0 (fields_after next.1 fields field) (field_after next.1 c field) rest)) (same_turn c)

-- ---- an open quote

abbrev Inside : State → Type 0
Inside st.StartRecord = ⊥
Inside st.AfterCr = ⊥
Inside st.InComment = ⊥
Inside _ = Unit {0}

abbrev HasEnd : List (List ℕ) → List ℕ → Type 0
HasEnd fields field = is_broken (fields ++ (field ∷ [])) ≡ true

or_front : (x y : Bool) → x ≡ true → (x || y) ≡ true
or_front true y e = refl
or_front false y e = absurd cc

broken_front : (fields more : List (List ℕ)) → is_broken fields ≡ true → is_broken (fields ++ more) ≡ true
broken_front fields more e = list_any-append (λ field. list_any is_line_end field) fields more
    ∙ or_front (is_broken fields) (is_broken more) e

or_last : (x y z : Bool) → (x || (y || false)) ≡ true → (x || ((y || z) || false)) ≡ true
or_last true y z e = refl
or_last false true z e = refl
or_last false false z e = absurd cc

field_grows : (fields : List (List ℕ)) (field more : List ℕ) → HasEnd fields field → HasEnd fields (field ++ more)
field_grows fields field more e =
    list_any-append (λ field. list_any is_line_end field) fields ((field ++ more) ∷ [])
    ∙ ap (λ (b : Bool). is_broken fields || (b || false)) (list_any-append is_line_end field more)
    ∙ or_last (is_broken fields) (list_any is_line_end field) (list_any is_line_end more)
    (sym (list_any-append (λ field. list_any is_line_end field) fields (field ∷ [])) ∙ e)

abbrev StaysOpen : List (List ℕ) → List ℕ → ℕ → State × Action → Type 0
StaysOpen fields field c next = MatchBool (is_end next.1) (Unit {0})
    (Inside next.0 × HasEnd (fields_after next.1 fields field) (field_after next.1 c field))

module _ (fields : List (List ℕ)) (field : List ℕ) (c : ℕ) (has : HasEnd fields field) where
  in_a_field : (comma ends : Bool) (after : State) → StaysOpen fields field c
      (cond comma (st.StartField, act.EndField) (cond ends (after, act.EndRecord) (st.InField, act.Copy)))
  in_a_field true ends after = (tt, broken_front (fields ++ (field ∷ [])) ([] ∷ []) has)
  in_a_field false true after = tt
  in_a_field false false after = (tt, field_grows fields field (c ∷ []) has)

  at_a_field : (quote : Bool)
      → StaysOpen fields field c (cond quote (st.InQuoted, act.Skip) (in_field default_config c))
  at_a_field true = (tt, has)
  at_a_field false = in_a_field (nat_eq c 44) (is_line_end c) (after_end default_config.terminator c)

  in_quotes : (quote : Bool) → StaysOpen fields field c (cond quote (st.AfterQuote, act.Skip) (st.InQuoted, act.Copy))
  in_quotes true = (tt, has)
  in_quotes false = (tt, field_grows fields field (c ∷ []) has)

  behind_quote : (quote : Bool)
      → StaysOpen fields field c (cond quote (st.InQuoted, act.Copy) (in_field default_config c))
  behind_quote true = (tt, field_grows fields field (c ∷ []) has)
  behind_quote false = in_a_field (nat_eq c 44) (is_line_end c) (after_end default_config.terminator c)

  open_on : (s : State) → Inside s → StaysOpen fields field c (turn s c)
  open_on st.StartRecord inside = absurd inside
  open_on st.StartField inside = at_a_field (nat_eq c 34)
  open_on st.InField inside = in_a_field (nat_eq c 44) (is_line_end c) (after_end default_config.terminator c)
  open_on st.InQuoted inside = in_quotes (nat_eq c 34)
  open_on st.InEscape inside = (tt, field_grows fields field (c ∷ []) has)
  open_on st.AfterQuote inside = behind_quote (nat_eq c 34)
  open_on st.InComment inside = absurd inside
  open_on st.AfterCr inside = absurd inside

ended : (action : Action) (fields : List (List ℕ)) (field : List ℕ) → is_end action ≡ true
    → fields_after action fields field ≡ fields ++ (field ∷ [])
ended act.EndRecord fields field e = refl
ended act.Skip fields field e = absurd cc
ended act.Copy fields field e = absurd cc
ended act.EndField fields field e = absurd cc

at_end : (s : State) → Inside s → ends_at_end s ≡ true
at_end st.StartRecord inside = absurd inside
at_end st.StartField inside = refl
at_end st.InField inside = refl
at_end st.InQuoted inside = refl
at_end st.InEscape inside = refl
at_end st.AfterQuote inside = refl
at_end st.InComment inside = absurd inside
at_end st.AfterCr inside = absurd inside

-- the first record is broken
abbrev pub BeginsBroken : Records → Records → Type 0
BeginsBroken front records =
    (one : List (List ℕ)) × (rest : Records) × (records ≡ front ++ one ∷ rest) × (is_broken one ≡ true)

matched : (A B : Type 0) (b : Bool) → b ≡ false → MatchBool b A B → B
matched A B true e m = absurd cc
matched A B false e m = m

matched_true : (A B : Type 0) (b : Bool) → b ≡ true → MatchBool b A B → A
matched_true A B true e m = m
matched_true A B false e m = absurd cc

module _ (c : ℕ) (rest : List ℕ) (s : State) (fields : List (List ℕ)) (field : List ℕ) where
  stays_on : Inside s → HasEnd fields field → (b : Bool) → is_end (turn s c).1 ≡ b
      → (Inside (turn s c).0 → HasEnd (fields_after (turn s c).1 fields field) (field_after (turn s c).1 c field)
      → BeginsBroken [] (split (turn s c).0 (fields_after (turn s c).1 fields field)
      (field_after (turn s c).1 c field) rest))
      → BeginsBroken [] (split s fields field (c ∷ rest))
  stays_on inside has true e later =
      let same = ended (turn s c).1 fields field e in (
        fields ++ (field ∷ []),
        split (turn s c).0 [] [] rest,
        one_read s fields field c rest e ∙ ap (λ (r : List (List ℕ)). r ∷ split (turn s c).0 [] [] rest) same,
        has,
      )
  stays_on inside has false e later =
      let next = matched _ _ (is_end (turn s c).1) e (open_on fields field c has s inside) in
      let (one, more, are, broken) = later next.0 next.1 in
      (one, more, reads_on s fields field c rest e ∙ are, broken)

stays_open : (bytes : List ℕ) (s : State) (fields : List (List ℕ)) (field : List ℕ) → Inside s → HasEnd fields field
    → BeginsBroken [] (split s fields field bytes)
stays_open [] s fields field inside has =
    (fields ++ (field ∷ []), [], no_bytes s fields field ∙ cond-true _ _ _ (at_end s inside), has)
stays_open (c ∷ rest) s fields field inside has = stays_on c rest s fields field inside has (is_end (turn s c).1) refl
    (stays_open rest (turn s c).0 (fields_after (turn s c).1 fields field) (field_after (turn s c).1 c field))

-- ---- up to a line end

module _ (s : State) (fields : List (List ℕ)) (field : List ℕ) (bytes : List ℕ) where
  -- whatever follows, its records stand behind those of the bytes
  abbrev pub IsClosed : Type 0
  IsClosed = (more : List ℕ)
      → split s fields field (bytes ++ more) ≡ split s fields field bytes ++ split st.StartRecord [] [] more

  -- the last record is broken, however it goes on
  abbrev pub IsOpen : Type 0
  IsOpen = (front : Records) × ((more : List ℕ) → BeginsBroken front (split s fields field (bytes ++ more)))

abbrev IsCut : State → List (List ℕ) → List ℕ → List ℕ → Type 0
IsCut s fields field bytes = IsClosed s fields field bytes ⊎ IsOpen s fields field bytes

pub line_ends : (e : ℕ) → is_line_end e ≡ true → (e ≡ 13) ⊎ (e ≡ 10)
line_ends e ends = by (nat_eq e 13) (nat_eq e 10) refl refl ends
  where
    by : (returns feeds : Bool) → nat_eq e 13 ≡ returns → nat_eq e 10 ≡ feeds → (returns || feeds) ≡ true
        → (e ≡ 13) ⊎ (e ≡ 10)
    by true feeds is_cr is_lf ends = inl (eqb-true e 13 is_cr)
    by false true is_cr is_lf ends = inr (eqb-true e 10 is_lf)
    by false false is_cr is_lf ends = absurd cc

or_end : (x y z : Bool) → z ≡ true → (x || ((y || (z || false)) || false)) ≡ true
or_end true y z e = refl
or_end false true z e = refl
or_end false false true e = refl
or_end false false false e = absurd cc

module _ (fields : List (List ℕ)) (field : List ℕ) where
  has_last : (e : ℕ) → is_line_end e ≡ true → HasEnd fields (field ++ e ∷ [])
  has_last e ends = list_any-append (λ field. list_any is_line_end field) fields ((field ++ e ∷ []) ∷ [])
      ∙ ap (λ (b : Bool). is_broken fields || (b || false)) (list_any-append is_line_end field (e ∷ []))
      ∙ or_end (is_broken fields) (list_any is_line_end field) (is_line_end e) ends

  last_lf : (s : State) → Fits s fields field → IsCut s fields field (10 ∷ [])
  unfolding split
  last_lf st.StartRecord fits = rw (fits.0, fits.1) (inl (λ more. refl))
  last_lf st.StartField fits = inl (λ more. refl)
  last_lf st.InField fits = inl (λ more. refl)
  last_lf st.InQuoted fits =
      inr ([], λ more. stays_open more st.InQuoted fields (field ++ 10 ∷ []) tt (has_last 10 refl))
  last_lf st.InEscape fits =
      inr ([], λ more. stays_open more st.InQuoted fields (field ++ 10 ∷ []) tt (has_last 10 refl))
  last_lf st.AfterQuote fits = inl (λ more. refl)
  last_lf st.InComment fits = absurd fits
  last_lf st.AfterCr fits = rw (fits.0, fits.1) (inl (λ more. refl))

  with_record : (more : List ℕ) → (fields ++ field ∷ []) ∷ split st.AfterCr [] [] more
      ≡ (fields ++ field ∷ []) ∷ split st.StartRecord [] [] more
  with_record more = ap (λ (records : Records). (fields ++ field ∷ []) ∷ records) (behind_cr [] [] more)

  last_cr : (s : State) → Fits s fields field → IsCut s fields field (13 ∷ [])
  unfolding split
  last_cr st.StartRecord fits = rw (fits.0, fits.1) (inl (λ more. refl))
  last_cr st.StartField fits = inl (λ more. with_record more)
  last_cr st.InField fits = inl (λ more. with_record more)
  last_cr st.InQuoted fits =
      inr ([], λ more. stays_open more st.InQuoted fields (field ++ 13 ∷ []) tt (has_last 13 refl))
  last_cr st.InEscape fits =
      inr ([], λ more. stays_open more st.InQuoted fields (field ++ 13 ∷ []) tt (has_last 13 refl))
  last_cr st.AfterQuote fits = inl (λ more. with_record more)
  last_cr st.InComment fits = absurd fits
  last_cr st.AfterCr fits = rw (fits.0, fits.1) (inl (λ more. refl))

  at_last : (e : ℕ) → is_line_end e ≡ true → (s : State) → Fits s fields field → IsCut s fields field (e ∷ [])
  at_last e ends s fits = elim (line_ends e ends) [
    | inl cr ↦ rw cr (last_cr s fits)
    | inr lf ↦ rw lf (last_lf s fits)
  ]

-- ---- all bytes

module _ (c : ℕ) (bytes : List ℕ) (s : State) (fields : List (List ℕ)) (field : List ℕ) where
  cut_later : (b : Bool) → is_end (turn s c).1 ≡ b → Fits s fields field
      → (Fits (turn s c).0 [] [] → IsCut (turn s c).0 [] [] bytes)
      → (Fits (turn s c).0 (fields_after (turn s c).1 fields field) (field_after (turn s c).1 c field)
      → IsCut (turn s c).0 (fields_after (turn s c).1 fields field) (field_after (turn s c).1 c field) bytes)
      → IsCut s fields field (c ∷ bytes)
  cut_later true e fits anew on =
      let one = fields_after (turn s c).1 fields field in
      elim (anew (matched_true _ _ (is_end (turn s c).1) e (fits_on fields field c s fits))) [
        | inl closed ↦ inl (λ more. one_read s fields field c (bytes ++ more) e
            ∙ ap (λ (records : Records). one ∷ records) (closed more)
            ∙ ap (λ (records : Records). records ++ split st.StartRecord [] [] more)
            (sym (one_read s fields field c bytes e)))
        | inr open_quote ↦ inr (
          one ∷ open_quote.0,
          λ more.
              let (other, rest, are, broken) = open_quote.1 more in (
                other,
                rest,
                one_read s fields field c (bytes ++ more) e ∙ ap (λ (records : Records). one ∷ records) are,
                broken,
              ),
        )
      ]
  cut_later false e fits anew on =
      elim (on (matched _ _ (is_end (turn s c).1) e (fits_on fields field c s fits))) [
        | inl closed ↦ inl (λ more. reads_on s fields field c (bytes ++ more) e ∙ closed more
            ∙ ap (λ (records : Records). records ++ split st.StartRecord [] [] more)
            (sym (reads_on s fields field c bytes e)))
        | inr open_quote ↦ inr (
          open_quote.0,
          λ more.
              let (other, rest, are, broken) = open_quote.1 more in
              (other, rest, reads_on s fields field c (bytes ++ more) e ∙ are, broken),
        )
      ]

-- bytes that end at a line's end
pub cut_at : (bytes : List ℕ) (e : ℕ) → is_line_end e ≡ true → (s : State) (fields : List (List ℕ)) (field : List ℕ)
    → Fits s fields field → IsCut s fields field (bytes ++ e ∷ [])
cut_at [] e ends s fields field fits = at_last fields field e ends s fits
cut_at (c ∷ bytes) e ends s fields field fits =
    cut_later c (bytes ++ e ∷ []) s fields field (is_end (turn s c).1) refl fits
    (cut_at bytes e ends (turn s c).0 [] [])
    (cut_at bytes e ends (turn s c).0 (fields_after (turn s c).1 fields field) (field_after (turn s c).1 c field))
