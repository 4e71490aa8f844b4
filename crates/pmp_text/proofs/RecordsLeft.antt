-- Reading one record leaves the records behind it.
use Rattle.std.proofs.Common.{Bor, ◌≡◌, ℕ, zero, suc, ◌+◌, ◌<◌, ◌≤◌, ◌⊎◌, Bool, true, false, cond, List, [], ◌∷◌}
use Rattle.std.proofs.Common.{length, Option, Some, None, refl, sym, ap, ◌∙◌, inl, inr, arith}
use Rattle.std.specs.Prelude.{IsSome}
use Rattle.csv.specs.declared.parser.Config.{Config}
use Rattle.csv.specs.declared.parser.State.{State}
use Rattle.csv.specs.declared.parser.State.TheVariants as state
use Rattle.csv.specs.declared.reader.Reader.{Reader}
use Rattle.csv.specs.Machine.{Read, step, is_end, ends_at_end, fields_after, field_after, next_record}
use Rattle.csv.specs.Reading.{Reached, ReadRecord, default_config, records_from, records_next}
use Rattle.csv.proofs.ReadFacts.{rows-end, rows-more}
use Rattle.pmp_text.specs.Steps.Records.{IsReading, bytes_left, records_behind, records_known, records_left}

-- a record takes a byte, or all that is left
abbrev TakesSome : List ℕ → Read → Type 0
TakesSome bytes read = (length read.2 < length bytes) ⊎ ((read.1 ≡ state.StartRecord) × (read.2 ≡ []))

last_takes : (ends : Bool) (fields : List (List ℕ)) (read : Read)
    → cond ends (Some (fields, state.StartRecord, [])) None ≡ Some read → TakesSome [] read
last_takes true fields read e = let same : (fields, state.StartRecord, []) ≡ read = cc in
    inr (ap (λ (r : Read). r.1) (sym same), ap (λ (r : Read). r.2) (sym same))
last_takes false fields read e = absurd cc

module _ (cfg : Config) where
  module _ (c : ℕ) (rest : List ℕ) (s : State) (fields : List (List ℕ)) (field : List ℕ) (read : Read) where
    abbrev after : State × List (List ℕ) × List ℕ
    after = ((step cfg s c).0, fields_after (step cfg s c).1 fields field, field_after (step cfg s c).1 c field)

    one_byte_taken : (end : Bool)
        → cond end (Some (after.1, after.0, rest)) (next_record cfg after.0 after.1 after.2 rest) ≡ Some read
        → (next_record cfg after.0 after.1 after.2 rest ≡ Some read → TakesSome rest read) → TakesSome (c ∷ rest) read
    one_byte_taken true e later =
        let same : (after.1, after.0, rest) ≡ read = cc in
        let rests : rest ≡ read.2 = ap (λ (r : Read). r.2) same in
        inl (rw (← rests) (omega arith))
    one_byte_taken false e later = elim (later e) [ inl less ↦ inl (omega arith) | inr all ↦ inr all ]

  takes_some : (bytes : List ℕ) (s : State) (fields : List (List ℕ)) (field : List ℕ) (read : Read)
      → next_record cfg s fields field bytes ≡ Some read → TakesSome bytes read
  unfolding next_record
  takes_some [] s fields field read e = last_takes (ends_at_end s) _ read e
  takes_some (c ∷ rest) s fields field read e =
      one_byte_taken c rest s fields field read (is_end (step cfg s c).1) e (takes_some rest _ _ _ read)

  none_at_end : (n : ℕ) → records_from cfg n state.StartRecord [] ≡ []
  unfolding records_from next_record
  none_at_end zero = refl
  none_at_end (suc n) = refl

  -- the records behind one are the same for any two numbers of turns that are enough for the bytes
  behind : (n m : ℕ) (bytes : List ℕ) (read : Read) → TakesSome bytes read → length bytes ≤ n → length bytes ≤ m
      → ((s : State) (rest : List ℕ) → length rest < n → length rest < m
      → records_from cfg n s rest ≡ records_from cfg m s rest)
      → records_from cfg n read.1 read.2 ≡ records_from cfg m read.1 read.2
  behind n m bytes read (inl less) below other same = same read.1 read.2 (omega arith) (omega arith)
  behind n m bytes read (inr all) below other same = rw (all.0, all.1) (none_at_end n ∙ sym (none_at_end m))

  module _ (n m : ℕ) (s : State) (bytes : List ℕ) where
    one_turn : (read : Option Read) → next_record cfg s [] [] bytes ≡ read → length bytes ≤ n → length bytes ≤ m
        → ((s : State) (rest : List ℕ) → length rest < n → length rest < m
        → records_from cfg n s rest ≡ records_from cfg m s rest)
        → records_next (records_from cfg n) read ≡ records_next (records_from cfg m) read
    one_turn None e below other same = refl
    one_turn (Some read) e below other same = ap (λ (more : List (List (List ℕ))). read.0 ∷ more)
        (behind n m bytes read (takes_some bytes s [] [] read e) below other same)

  enough : (n m : ℕ) (s : State) (bytes : List ℕ) → length bytes < n → length bytes < m
      → records_from cfg n s bytes ≡ records_from cfg m s bytes
  unfolding records_from
  enough zero m s bytes below other = absurd (omega arith)
  enough (suc n) zero s bytes below other = absurd (omega arith)
  enough (suc n) (suc m) s bytes below other = one_turn n m s bytes (next_record cfg s [] [] bytes) refl (omega arith)
      (omega arith) (λ s rest less more. enough n m s rest less more)

-- records are read in one turn for each byte and one for the end
one_turn_more : (s : State) (bytes : List ℕ) → records_behind s bytes
    ≡ records_next (records_from default_config (length bytes)) (next_record default_config s [] [] bytes)
unfolding records_from
one_turn_more s bytes =
    let turns : length bytes + 1 ≡ suc (length bytes) = omega arith in
    ap (λ (n : ℕ). records_from default_config n s bytes) turns

pub one_more : (s : State) (bytes : List ℕ) (read : Read) → next_record default_config s [] [] bytes ≡ Some read
    → records_behind s bytes ≡ read.0 ∷ records_behind read.1 read.2
one_more s bytes read e =
    one_turn_more s bytes ∙ ap (records_next (records_from default_config (length bytes))) e
    ∙ ap (λ (more : List (List (List ℕ))). read.0 ∷ more) (elim (takes_some default_config bytes s [] [] read e) [
      | inl less ↦ enough default_config (length bytes) (length read.2 + 1) read.1 read.2 less (omega arith)
      | inr all ↦ rw (all.0, all.1) (none_at_end default_config (length bytes) ∙ sym (none_at_end default_config 1))
    ])

pub no_more : (s : State) (bytes : List ℕ) → next_record default_config s [] [] bytes ≡ None
    → records_behind s bytes ≡ []
no_more s bytes e = one_turn_more s bytes ∙ ap (records_next (records_from default_config (length bytes))) e

taken_from : (s : State) (bytes : List ℕ) (fields : List (List ℕ)) (after : State) (known : Option (List ℕ))
    (rest : List ℕ) → Reached default_config s bytes (fields ∷ []) after rest → known ≡ Some rest
    → records_behind s bytes ≡ fields ∷ records_known after known
unfolding Reached
taken_from s bytes fields after known rest (next, taken, same, ends) at_rest = one_more s bytes next taken
    ∙ rw (same, at_rest, ← ends.0, ← ends.1) refl

abbrev Text : Type 0
Text = Bor (List ℕ)

some_bytes : (known : Option (List ℕ)) → IsSome known → (bytes : List ℕ) × (known ≡ Some bytes)
some_bytes None e = absurd cc
some_bytes (Some bytes) e = (bytes, refl)

module _ (old new : Reader Text) (fields : List (List ℕ)) (reading : IsReading old) where
  pub record_left : ReadRecord (λ (s : Text). Some s.now) old new true fields
      → records_left old ≡ fields ∷ records_left new
  unfolding Reached
  record_left read =
      let (bytes, at_bytes) = some_bytes (bytes_left old) reading.known in
      let (rest, at_rest, reached) = rows-more (λ (s : Text). Some s.now)
      old new fields default_config old.state bytes bytes [] reading.config at_bytes (refl, refl) read in
      ap (records_known old.state) at_bytes
      ∙ taken_from old.state bytes fields new.state (bytes_left new) rest reached at_rest

  pub no_record_left : ReadRecord (λ (s : Text). Some s.now) old new false fields → records_left old ≡ []
  no_record_left read =
      let (bytes, at_bytes) = some_bytes (bytes_left old) reading.known in
      ap (records_known old.state) at_bytes
      ∙ no_more old.state bytes (rows-end (λ (s : Text). Some s.now)
      old new fields default_config bytes reading.config at_bytes read)
