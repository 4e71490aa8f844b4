-- The first fault of records, part by part.
use Rattle.std.proofs.Common.{◌≡◌, ℕ, suc, ◌+◌, Bool, true, false, cond, List, [], ◌∷◌, ◌++◌, length, Option, Some}
use Rattle.std.proofs.Common.{◌^◌, ◌≤◌, None, refl, sym, ap, subst, ◌∙◌, append_assoc, inl, inr, arith}
use Rattle.std.specs.Prelude.{filter_map, option_map}
use Rattle.std.specs.List.{position_from}
use Rattle.std.specs.Option.{option_or}
use Rattle.std.proofs.lemmas.List.{length-append}
use Rattle.std.proofs.lemmas.List.Elements.{filter_map-append}
use Rattle.pmp_text.specs.declared.fault.Fault.{Fault}
use Rattle.pmp_text.specs.declared.refusal.Refusal.TheVariants.{BadHeader, BadRow}
use Rattle.pmp_text.specs.declared.trace.rows.Position.{Position}
use Rattle.pmp_text.specs.LongTraces.{HasTooManyRows, Records, first_fault_at, has_begun, is_bare_record, last_after}
use Rattle.pmp_text.specs.Tables.{is_line_end}
use Rattle.pmp_text.specs.LongTraces.{piece_fault, place_behind, row_records}
use Rattle.pmp_text.specs.Moments.{KnownMoments}
use Rattle.pmp_text.specs.Tables.{records_of}
use Rattle.pmp_text.specs.Traces.{after_of, first_row_fault, is_header, row_fault, row_of_record, row_in}
use Rattle.pmp_text.proofs.BrokenRows.{no_row, no_header}
use Rattle.pmp_text.proofs.CutTexts.{IsApart, cut_in_two}
use Rattle.pmp_text.specs.Tables.{is_broken}
use Rattle.pmp_text.specs.Flaws.{at_row, as_whole}
use Rattle.pmp_text.specs.declared.fault.Source.TheVariants as source

-- of two fronts of a list one begins the other
in_front : (front known : Records) (one : List (List ℕ)) (rest behind : Records) → known ++ one ∷ rest ≡ front ++ behind
    → ((mid : Records) → front ≡ known ++ one ∷ mid → ⊥) → (mid : Records) × (known ≡ front ++ mid)
in_front [] known one rest behind same longer = (known, refl)
in_front (first ∷ front) [] one rest behind same longer =
    let here : first ≡ one = cc in absurd (longer front (ap (λ (r : List (List ℕ)). r ∷ front) here))
in_front (first ∷ front) (next ∷ known) one rest behind same longer =
    let here : next ≡ first = cc in
    let there : known ++ one ∷ rest ≡ front ++ behind = cc in
    let (mid, known_is) = in_front front known one rest behind there (λ mid front_is. longer mid cc) in
    (mid, cc)

or_assoc : {X : Type 0} (x y z : Option X) → option_or x (option_or y z) ≡ option_or (option_or x y) z
or_assoc None y z = refl
or_assoc (Some fault) y z = refl

module _ (moments : KnownMoments) where
  pub behind : (named : Bool) (last : Option ℕ) (next : ℕ) (rows : Records)
      → cond named (first_row_fault moments last next rows) (Some (at_row source.Trace 0 (as_whole BadHeader))) ≡ None
      → first_row_fault moments last next rows ≡ None
  behind true last next rows e = e
  behind false last next rows e = absurd cc

  -- ---- records after records

  from_next : (rows : Records) (last : Option ℕ) (next : ℕ)
      → first_row_fault moments last next rows ≡ first_row_fault moments last (next + 0) rows
  from_next rows last next = let same : next ≡ next + 0 = omega arith in
      ap (λ (n : ℕ). first_row_fault moments last n rows) same

  pub rows_in_turn : (rows more : Records) (last : Option ℕ) (next : ℕ)
      → first_row_fault moments last next (rows ++ more)
      ≡ option_or (first_row_fault moments last next rows)
      (first_row_fault moments (last_after moments last rows) (next + length rows) more)
  rows_in_turn [] more last next = from_next more last next
  rows_in_turn (row ∷ rows) more last next =
      let here = option_map (at_row source.Trace next) (row_fault moments.publications last (row_in moments row)) in
      let after = after_of (row_of_record moments row) in
      let number : next + 1 + length rows ≡ next + suc (length rows) = omega arith in
      ap (option_or here) (rows_in_turn rows more after (next + 1))
      ∙ or_assoc here (first_row_fault moments after (next + 1) rows)
      (first_row_fault moments (last_after moments after rows) (next + 1 + length rows) more)
      ∙ ap (λ (n : ℕ). option_or (option_or here (first_row_fault moments after (next + 1) rows))
      (first_row_fault moments (last_after moments after rows) n more)) number

  module _ (last : Option ℕ) (next : ℕ) where
    abbrev next_fault : Bool → Records → Records → Option Fault
    next_fault begun records more = first_fault_at moments (has_begun begun records)
        (last_after moments last (row_records begun records)) (next + length (row_records begun records)) more

    by_header : (named : Bool) (rows more : Records)
        → cond named (first_row_fault moments last next (rows ++ more)) (Some (at_row source.Trace 0 (as_whole BadHeader)))
        ≡ option_or (cond named (first_row_fault moments last next rows) (Some (at_row source.Trace 0 (as_whole BadHeader))))
        (first_row_fault moments (last_after moments last rows) (next + length rows) more)
    by_header true rows more = rows_in_turn rows more last next
    by_header false rows more = refl

    pub in_turn : (begun : Bool) (records more : Records)
        → first_fault_at moments begun last next (records ++ more)
        ≡ option_or (first_fault_at moments begun last next records) (next_fault begun records more)
    in_turn true records more = rows_in_turn records more last next
    in_turn false [] more = let same : next ≡ next + 0 = omega arith in
        ap (λ (n : ℕ). first_fault_at moments false last n more) same
    in_turn false (header ∷ rows) more = by_header (is_header header) rows more

  -- ---- a broken record

  abbrev broken_fault : Bool → ℕ → Fault
  broken_fault begun next = cond begun (at_row source.Trace next (as_whole BadRow)) (at_row source.Trace 0 (as_whole BadHeader))

  broken_here : (begun : Bool) (last : Option ℕ) (next : ℕ) (one : List (List ℕ)) (rest : Records)
      → is_broken one ≡ true
      → first_fault_at moments begun last next (one ∷ rest) ≡ Some (broken_fault begun next)
  broken_here true last next one rest e = rw (no_row moments one e) refl
  broken_here false last next one rest e = rw (no_header one e) refl

  abbrev fault_with : Position → Records → Option Fault
  fault_with place front = option_or (piece_fault moments place front)
      (Some (broken_fault (has_begun place.begun front) (place.next + length (row_records place.begun front))))

  -- a broken record has the same fault, however it goes on
  pub broken_in_turn : (place : Position) (front : Records) (one : List (List ℕ)) (rest : Records)
      → is_broken one ≡ true → piece_fault moments place (front ++ one ∷ rest) ≡ fault_with place front
  broken_in_turn place front one rest e = in_turn place.last place.next place.begun front (one ∷ rest)
      ∙ ap (option_or (piece_fault moments place front)) (broken_here (has_begun place.begun front)
      (last_after moments place.last (row_records place.begun front))
      (place.next + length (row_records place.begun front)) one rest e)

  some_or : (x : Option Fault) (fault : Fault) → option_or x (Some fault) ≡ None → ⊥
  some_or None fault e = absurd cc
  some_or (Some other) fault e = absurd cc

  -- ---- a piece that ends at a line's end

  module _ (place : Position) (bytes : List ℕ) (e : ℕ) (ends : is_line_end e ≡ true) where
    pub apart : piece_fault moments place (records_of (bytes ++ e ∷ [])) ≡ None → IsApart bytes e
    apart fine = elim (cut_in_two bytes e ends) [
      | inl in_two ↦ in_two
      | inr (front, goes_on) ↦
          let (one, rest, are, broken) = goes_on [] in
          absurd (some_or (piece_fault moments place front) _
          (sym (ap (piece_fault moments place) are ∙ broken_in_turn place front one rest broken) ∙ fine))
    ]

    pub front_stays : (front behind : Records) → records_of (bytes ++ e ∷ []) ≡ front ++ behind
        → piece_fault moments place front ≡ None → (more : List ℕ)
        → (others : Records) × (records_of (bytes ++ e ∷ more) ≡ front ++ others)
    front_stays front behind are fine more = elim (cut_in_two bytes e ends) [
      | inl in_two ↦ (
        behind ++ records_of (e ∷ more),
        in_two more ∙ ap (λ (l : Records). l ++ records_of (e ∷ more)) are
            ∙ append_assoc front behind (records_of (e ∷ more)),
      )
      | inr (known, goes_on) ↦
          let (one, rest, said, broken) = goes_on [] in
          let (other, others, said_now, is_broken) = goes_on more in
          let (mid, known_is) = in_front front known one rest behind (sym said ∙ are) (λ mid front_is.
          some_or (piece_fault moments place known) _ (sym (ap (piece_fault moments place) front_is
          ∙ broken_in_turn place known one mid broken) ∙ fine)) in (
            mid ++ other ∷ others,
            said_now ∙ ap (λ (l : Records). l ++ other ∷ others) known_is ∙ append_assoc front mid (other ∷ others),
          )
    ]

    pub fault_stays : (fault : Fault) → piece_fault moments place (records_of (bytes ++ e ∷ [])) ≡ Some fault
        → (more : List ℕ) → piece_fault moments place (records_of (bytes ++ e ∷ more)) ≡ Some fault
    fault_stays fault found more = elim (cut_in_two bytes e ends) [
      | inl in_two ↦ ap (piece_fault moments place) (in_two more)
          ∙ in_turn place.last place.next place.begun (records_of (bytes ++ e ∷ [])) (records_of (e ∷ more))
          ∙ ap (λ (x : Option Fault). option_or x (next_fault place.last place.next place.begun
          (records_of (bytes ++ e ∷ [])) (records_of (e ∷ more)))) found
      | inr (front, goes_on) ↦
          let (one, rest, are, broken) = goes_on [] in
          let (other, others, are_now, is_broken) = goes_on more in
          ap (piece_fault moments place) are_now ∙ broken_in_turn place front other others is_broken
          ∙ sym (ap (piece_fault moments place) are ∙ broken_in_turn place front one rest broken) ∙ found
    ]

-- ---- places

rows_apart : (begun : Bool) (records more : Records)
    → row_records begun (records ++ more) ≡ row_records begun records ++ row_records (has_begun begun records) more
rows_apart true records more = refl
rows_apart false [] more = refl
rows_apart false (header ∷ rows) more = refl

begun_apart : (begun : Bool) (records more : Records)
    → has_begun begun (records ++ more) ≡ has_begun (has_begun begun records) more
begun_apart true records more = refl
begun_apart false [] more = refl
begun_apart false (header ∷ rows) more = refl

last_apart : (moments : KnownMoments) (rows more : Records) (last : Option ℕ)
    → last_after moments last (rows ++ more) ≡ last_after moments (last_after moments last rows) more
last_apart moments [] more last = refl
last_apart moments (row ∷ rows) more last = last_apart moments rows more (after_of (row_of_record moments row))

-- ---- the first place that passes

module _ {X : Type 0} (test : X → Bool) where
  pub position_apart : (xs more : List X) (next : ℕ) → position_from test next (xs ++ more)
      ≡ option_or (position_from test next xs) (position_from test (next + length xs) more)
  position_apart [] more next =
      let same : next ≡ next + 0 = omega arith in ap (λ (n : ℕ). position_from test n more) same
  position_apart (x ∷ xs) more next = by (test x) (position_apart xs more (next + 1))
    where
      by : (passes : Bool) → position_from test (next + 1) (xs ++ more)
          ≡ option_or (position_from test (next + 1) xs) (position_from test (next + 1 + length xs) more)
          → cond passes (Some next) (position_from test (next + 1) (xs ++ more))
          ≡ option_or (cond passes (Some next) (position_from test (next + 1) xs))
          (position_from test (next + suc (length xs)) more)
      by true later = refl
      by false later =
          let number : next + 1 + length xs ≡ next + suc (length xs) = omega arith in
          later ∙ ap (λ (n : ℕ). option_or (position_from test (next + 1) xs) (position_from test n more)) number

  pub position_shifted : (by next : ℕ) (xs : List X)
      → option_map (λ n. by + n) (position_from test next xs) ≡ position_from test (by + next) xs
  position_shifted by next [] = refl
  position_shifted by next (x ∷ xs) = at (test x) (position_shifted by (next + 1) xs)
    where
      at : (passes : Bool) → option_map (λ n. by + n) (position_from test (next + 1) xs)
          ≡ position_from test (by + (next + 1)) xs
          → option_map (λ n. by + n) (cond passes (Some next) (position_from test (next + 1) xs))
          ≡ cond passes (Some (by + next)) (position_from test (by + next + 1) xs)
      at true later = refl
      at false later =
          let number : by + (next + 1) ≡ by + next + 1 = omega arith in
          later ∙ ap (λ (n : ℕ). position_from test n xs) number

-- where records stand that follow on records
pub places_in_turn : (moments : KnownMoments) (place : Position) (records more : Records)
    → place_behind moments place (records ++ more) ≡ place_behind moments (place_behind moments place records) more
places_in_turn moments place records more =
    let is_bare = is_bare_record moments in
    let begun = has_begun place.begun records in
    let rows = row_records place.begun records in
    let later = row_records begun more in
    let all : row_records place.begun (records ++ more) ≡ rows ++ later = rows_apart place.begun records more in
    let number : place.next + length (rows ++ later) ≡ place.next + length rows + length later =
    let many = length-append rows later in omega arith in
    let bare : option_or place.bare (position_from is_bare place.next (rows ++ later))
    ≡ option_or (option_or place.bare (position_from is_bare place.next rows))
    (position_from is_bare (place.next + length rows) later) =
    ap (option_or place.bare) (position_apart is_bare rows later place.next) ∙ or_assoc place.bare _ _ in
    (λ i. record {
      begun = begun_apart place.begun records more i;
      last = last_after moments place.last (all i);
      next = place.next + length (all i);
      bare = option_or place.bare (position_from is_bare place.next (all i));
    })
    ∙ (λ i. record {
      begun = has_begun begun more;
      last = last_apart moments rows later place.last i;
      next = number i;
      bare = bare i;
    })

-- too many rows behind records without a fault are too many with them
pub too_many_behind : (moments : KnownMoments) (place : Position) (records more : Records)
    → piece_fault moments place records ≡ None → HasTooManyRows moments (place_behind moments place records) more
    → HasTooManyRows moments place (records ++ more)
too_many_behind moments place records more fine many =
    let behind = place_behind moments place records in record {
      front = records ++ many.front;
      behind = many.behind;
      are = ap (λ (l : Records). records ++ l) many.are ∙ sym (append_assoc records many.front many.behind);
      fine = in_turn moments place.last place.next place.begun records many.front
          ∙ ap (λ (x : Option Fault). option_or x (piece_fault moments behind many.front)) fine ∙ many.fine;
      many = subst (λ (p : Position). 2 ^ 64 ≤ p.next) (sym (places_in_turn moments place records many.front)) many.many;
    }

pub rows_in_two : (moments : KnownMoments) (begun : Bool) (records more : Records)
    → filter_map (row_of_record moments) (row_records begun (records ++ more))
    ≡ filter_map (row_of_record moments) (row_records begun records)
    ++ filter_map (row_of_record moments) (row_records (has_begun begun records) more)
rows_in_two moments begun records more = ap (filter_map (row_of_record moments)) (rows_apart begun records more)
    ∙ filter_map-append (row_of_record moments) (row_records begun records) (row_records (has_begun begun records) more)
