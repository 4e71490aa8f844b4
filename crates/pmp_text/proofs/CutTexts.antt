-- The records of a text that is cut at a line end.
use Rattle.std.proofs.Common.{◌≡◌, ℕ, ◌+◌, ◌*◌, ◌≤◌, length, arith, ◌&&◌, ◌⊎◌, Bool, true, false, cond, List, []}
use Rattle.std.proofs.Common.{◌∷◌, ◌++◌, Option, Some, None}
use Rattle.std.proofs.Common.{refl, sym, ap, ◌∙◌, inl, inr, append_assoc, append-nil}
use Rattle.std.specs.Prelude.{◌==◌}
use Rattle.csv.specs.declared.parser.State.{State}
use Rattle.csv.specs.declared.parser.State.TheVariants as st
use Rattle.csv.specs.Machine.{Read, is_end, ends_at_end, fields_after, field_after, next_record}
use Rattle.csv.specs.Reading.{default_config, records, records_next, strip_bom, is_bom}
use Rattle.pmp_text.specs.Steps.Records.{records_behind}
use Rattle.std.proofs.lemmas.Bool.{cond-true, cond-false}
use Rattle.pmp_text.proofs.RecordsLeft.{one_more, no_more}
use Rattle.pmp_text.specs.LongTraces.{Records}
use Rattle.pmp_text.specs.Tables.{is_line_end}
use Rattle.pmp_text.specs.Tables.{records_of}
use Rattle.pmp_text.proofs.SplitRecords.{turn, split}
use Rattle.pmp_text.proofs.LineCuts.{BeginsBroken, line_ends, cut_at}

nothing : next_record default_config st.StartRecord [] [] [] ≡ None
unfolding next_record
nothing = refl

records_of_end : records_behind st.StartRecord [] ≡ []
records_of_end = no_more st.StartRecord [] nothing

from_first : (s : State) (bytes : List ℕ)
    → records_behind s bytes ≡ records_next records_behind (next_record default_config s [] [] bytes)
from_first s bytes = by (next_record default_config s [] [] bytes) refl
  where
    by : (read : Option Read) → next_record default_config s [] [] bytes ≡ read
        → records_behind s bytes ≡ records_next records_behind read
    by None e = no_more s bytes e
    by (Some read) e = one_more s bytes read e

module _ (s : State) (fields : List (List ℕ)) (field : List ℕ) where
  at_end : (ends : Bool)
      → records_next records_behind (cond ends (Some (fields ++ (field ∷ []), st.StartRecord, [])) None)
      ≡ cond ends ((fields ++ (field ∷ [])) ∷ []) []
  at_end true = ap (λ (more : Records). (fields ++ (field ∷ [])) ∷ more) records_of_end
  at_end false = refl

  module _ (c : ℕ) (rest : List ℕ) where
    abbrev after : Records → Read → Records
    after more read = read.0 ∷ more

    one_byte : (ends : Bool)
        → ((s : State) (fields : List (List ℕ)) (field : List ℕ)
        → records_next records_behind (next_record default_config s fields field rest) ≡ split s fields field rest)
        → records_next records_behind (cond ends
        (Some (fields_after (turn s c).1 fields field, (turn s c).0, rest))
        (next_record default_config (turn s c).0 (fields_after (turn s c).1 fields field)
        (field_after (turn s c).1 c field) rest))
        ≡ cond ends (fields_after (turn s c).1 fields field ∷ split (turn s c).0 [] [] rest)
        (split (turn s c).0 (fields_after (turn s c).1 fields field) (field_after (turn s c).1 c field) rest)
    one_byte true later = ap (λ (more : Records). fields_after (turn s c).1 fields field ∷ more)
        (from_first (turn s c).0 rest ∙ later (turn s c).0 [] [])
    one_byte false later = later _ _ _

read_as_split : (bytes : List ℕ) (s : State) (fields : List (List ℕ)) (field : List ℕ)
    → records_next records_behind (next_record default_config s fields field bytes) ≡ split s fields field bytes
unfolding next_record split
read_as_split [] s fields field = at_end s fields field (ends_at_end s)
read_as_split (c ∷ rest) s fields field = one_byte s fields field c rest (is_end (turn s c).1) (read_as_split rest)

-- the records of a text by itself
pub by_split : (bytes : List ℕ) → records default_config bytes ≡ split st.StartRecord [] [] bytes
by_split bytes = from_first st.StartRecord bytes ∙ read_as_split bytes st.StartRecord [] []

-- ---- a byte-order mark

module _ (e : ℕ) (ends : is_line_end e ≡ true) where
  no_mark : (more : List ℕ) → strip_bom (e ∷ more) ≡ e ∷ more
  unfolding strip_bom
  no_mark [] = refl
  no_mark (a ∷ []) = refl
  no_mark (a ∷ b ∷ more) = elim (line_ends e ends) [ inl cr ↦ rw cr refl | inr lf ↦ rw lf refl ]

  skipped : (more : List ℕ) → split st.StartRecord [] [] (e ∷ more) ≡ split st.StartRecord [] [] more
  unfolding split
  skipped more = elim (line_ends e ends) [ inl cr ↦ rw cr refl | inr lf ↦ rw lf refl ]

  -- behind a line's end a text begins with no mark, and the line's end itself says nothing
  pub behind_line_end : (more : List ℕ) → records_of (e ∷ more) ≡ split st.StartRecord [] [] more
  behind_line_end more = ap (records default_config) (no_mark more) ∙ by_split (e ∷ more) ∙ skipped more

  no_second : (a c : Bool) → ((a && (e == 0xBB)) && c) ≡ false
  no_second true c = elim (line_ends e ends) [ inl cr ↦ rw cr refl | inr lf ↦ rw lf refl ]
  no_second false c = refl

  no_third : (a b : Bool) → ((a && b) && (e == 0xBF)) ≡ false
  no_third true true = elim (line_ends e ends) [ inl cr ↦ rw cr refl | inr lf ↦ rw lf refl ]
  no_third true false = refl
  no_third false b = refl

  abbrev Front : List ℕ → List ℕ → Type 0
  Front bytes front = (more : List ℕ) → strip_bom (bytes ++ e ∷ more) ≡ front ++ e ∷ more

  one_before : (a : ℕ) → Front (a ∷ []) (a ∷ [])
  unfolding strip_bom
  one_before a [] = refl
  one_before a (m ∷ more) = cond-false _ _ _ (no_second (a == 0xEF) (m == 0xBF))

  two_before : (a b : ℕ) → Front (a ∷ b ∷ []) (a ∷ b ∷ [])
  unfolding strip_bom
  two_before a b more = cond-false _ _ _ (no_third (a == 0xEF) (b == 0xBB))

  three_before : (a b c : ℕ) (rest : List ℕ) (mark : Bool) → is_bom a b c ≡ mark
      → (front : List ℕ) × Front (a ∷ b ∷ c ∷ rest) front
  unfolding strip_bom
  three_before a b c rest true is = (rest, λ more. cond-true _ _ _ is)
  three_before a b c rest false is = (a ∷ b ∷ c ∷ rest, λ more. cond-false _ _ _ is)

  -- the mark of a text that ends at a line's end stands before that
  mark_before : (bytes : List ℕ) → (front : List ℕ) × Front bytes front
  mark_before [] = ([], no_mark)
  mark_before (a ∷ []) = (a ∷ [], one_before a)
  mark_before (a ∷ b ∷ []) = (a ∷ b ∷ [], two_before a b)
  mark_before (a ∷ b ∷ c ∷ rest) = three_before a b c rest (is_bom a b c) refl

-- ---- a text in two

module _ (bytes : List ℕ) (e : ℕ) where
  -- the records of the whole are those of both parts, where the second one begins with the line's end
  abbrev pub IsApart : Type 0
  IsApart = (more : List ℕ) → records_of (bytes ++ e ∷ more) ≡ records_of (bytes ++ e ∷ []) ++ records_of (e ∷ more)

  -- a record of the first part is broken, and so it is in the whole
  abbrev pub IsBrokenOff : Type 0
  IsBrokenOff = (front : Records) × ((more : List ℕ) → BeginsBroken front (records_of (bytes ++ e ∷ more)))

  module _ (ends : is_line_end e ≡ true) where
    whole : (front : List ℕ) → Front e ends bytes front → (more : List ℕ)
        → records_of (bytes ++ e ∷ more) ≡ split st.StartRecord [] [] ((front ++ e ∷ []) ++ more)
    whole front is more = ap (records default_config) (is more) ∙ by_split (front ++ e ∷ more)
        ∙ ap (split st.StartRecord [] []) (sym (append_assoc front (e ∷ []) more))

    pub cut_in_two : IsApart ⊎ IsBrokenOff
    cut_in_two =
        let (front, is) = mark_before e ends bytes in
        elim (cut_at front e ends st.StartRecord [] [] (refl, refl)) [
          | inl closed ↦ inl (λ more. whole front is more ∙ closed more
              ∙ ap (λ (records : Records). records ++ split st.StartRecord [] [] more)
              (ap (split st.StartRecord [] []) (sym (append-nil (front ++ e ∷ []))) ∙ sym (whole front is []))
              ∙ ap (λ (records : Records). records_of (bytes ++ e ∷ []) ++ records)
              (sym (behind_line_end e ends more)))
          | inr broken ↦ inr (
            broken.0,
            λ more.
                let (one, rest, are, is_broken) = broken.1 more in (one, rest, whole front is more ∙ are, is_broken),
          )
        ]

-- ---- how many

few_at_end : (ends : Bool) (one : List (List ℕ)) → length (cond ends (one ∷ []) []) ≤ 2 * 0 + 1
few_at_end true one = omega arith
few_at_end false one = omega arith

few_split : (bytes : List ℕ) (s : State) (fields : List (List ℕ)) (field : List ℕ)
    → length (split s fields field bytes) ≤ 2 * length bytes + 1
unfolding split
few_split [] s fields field = few_at_end (ends_at_end s) (fields ++ (field ∷ []))
few_split (c ∷ rest) s fields field =
    few_on c rest (is_end (turn s c).1) (fields_after (turn s c).1 fields field)
    (split (turn s c).0 [] [] rest)
    (split (turn s c).0 (fields_after (turn s c).1 fields field) (field_after (turn s c).1 c field) rest)
    (few_split rest (turn s c).0 [] [])
    (few_split rest (turn s c).0 (fields_after (turn s c).1 fields field) (field_after (turn s c).1 c field))
  where
    few_on : (c : ℕ) (rest : List ℕ) (ends : Bool) (one : List (List ℕ)) (anew on : Records)
        → length anew ≤ 2 * length rest + 1 → length on ≤ 2 * length rest + 1
        → length (cond ends (one ∷ anew) on) ≤ 2 * length (c ∷ rest) + 1
    few_on c rest true one anew on less more = omega arith
    few_on c rest false one anew on less more = omega arith

few_bytes : (text : List ℕ) → length (strip_bom text) ≤ length text
unfolding strip_bom
few_bytes [] = omega arith
few_bytes (a ∷ []) = omega arith
few_bytes (a ∷ b ∷ []) = omega arith
few_bytes (a ∷ b ∷ c ∷ rest) = by (is_bom a b c)
  where
    by : (mark : Bool) → length (cond mark rest (a ∷ b ∷ c ∷ rest)) ≤ length (a ∷ b ∷ c ∷ rest)
    by true = omega arith
    by false = omega arith

-- a text has few records
pub few_records : (text : List ℕ) → length (records_of text) ≤ 2 * length text + 1
few_records text =
    let split_few = few_split (strip_bom text) st.StartRecord [] [] in
    let less = few_bytes text in
    rw (by_split (strip_bom text)) (omega arith)
