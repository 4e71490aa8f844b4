-- Where a list is cut first, and what the lines and words of a text are from there on.
use Rattle.std.proofs.Common.{◌≡◌, ℕ, suc, ◌+◌, ◌<◌, ◌≤◌, Bool, true, false, cond, not, ltb, List, [], ◌∷◌, length}
use Rattle.std.proofs.Common.{get_or, drop, map, Some, None, refl, sym, ap, ◌∙◌, inl, inr, arith}
use Rattle.std.specs.Prelude.{position, filter}
use Rattle.std.specs.List.{slice_split, before_first, after_first, position_or_len}
use Rattle.std.specs.Str.Lines.{strip_carriage_return}
use Rattle.std.proofs.lemmas.Option.{cond_some}
use Rattle.std.proofs.lemmas.Bool.{ltb-true, ltb-false, lt-ltb, cases_lt, not-true, cond-true}
use Rattle.std.proofs.Math.ListN.{drop_of_length-le}
use Rattle.std.proofs.lemmas.List.{take_all, length-take, length-drop, get_or-drop}
use Rattle.std.proofs.lemmas.List.Splits.{slice_split_first, slice_split_none, slice_split-cons_yes, length-slice_split}
use Rattle.std.proofs.lemmas.List.Sums.{fails_before_first, passes_at_first}
use Rattle.pmp_text.specs.Lines.{is_blank, is_line_feed, has_bytes, words, without_empty_end, lines}

module _ {X : Type 0} (p : X → Bool) where
  pub position_found : (xs : List X) (i : ℕ) → position p xs ≡ Some i → (position_or_len p xs ≡ i) × (i < length xs)
  position_found xs i e =
      let (below, same) = cond_some (ltb (position_or_len p xs) (length xs)) (position_or_len p xs) i e in
      let inside = ltb-true _ _ below in (same, omega arith)

  not_found : (b : Bool) (n l : ℕ) → ltb n l ≡ b → cond b (Some n) None ≡ None → l ≤ n
  not_found true n l t e = absurd cc
  not_found false n l t e = ltb-false n l t

  pub position_missed : (xs : List X) → position p xs ≡ None → length xs ≤ position_or_len p xs
  position_missed xs e = not_found (ltb (position_or_len p xs) (length xs)) _ _ refl e

module _ (p : ℕ → Bool) where
  none_before : (xs : List ℕ) → length xs ≤ position_or_len p xs → (k : ℕ) (d : ℕ) → k < length xs
      → p (get_or xs k d) ≡ false
  none_before xs le k d lt = fails_before_first p xs k d (omega arith)

  uncut : (xs : List ℕ) → length xs ≤ position_or_len p xs → slice_split p xs ≡ xs ∷ []
  uncut xs le = slice_split_none p xs (none_before xs le)

  before_all : (xs : List ℕ) → length xs ≤ position_or_len p xs → before_first p xs ≡ xs
  before_all xs le = take_all (position_or_len p xs) xs le

  after_none : (xs : List ℕ) → length xs ≤ position_or_len p xs → after_first p xs ≡ []
  after_none xs le = let past : length xs ≤ position_or_len p xs + 1 = omega arith in drop_of_length-le xs past

-- ---- lines

keeps_front : (piece : List ℕ) (pieces : List (List ℕ)) → 0 < length pieces
    → without_empty_end (piece ∷ pieces) ≡ piece ∷ without_empty_end pieces
keeps_front piece [] more = absurd (omega arith)
keeps_front piece (next ∷ pieces) more = refl

pub no_lines : (text : List ℕ) → length text ≡ 0 → lines text ≡ []
unfolding lines
no_lines [] e = refl
no_lines (x ∷ text) e = absurd (omega arith)

pub first_line : (text : List ℕ) → 0 < length text
    → lines text ≡ strip_carriage_return (before_first is_line_feed text) ∷ lines (after_first is_line_feed text)
unfolding lines
first_line text some =
    elim (cases_lt (position_or_len is_line_feed text) (length text)) [
      | inl cut ↦
          let rest = slice_split is_line_feed (after_first is_line_feed text) in
          let several : 0 < length rest = omega (arith, length-slice_split is_line_feed (after_first is_line_feed text))
          in
          ap (λ (pieces : List (List ℕ)). map strip_carriage_return (without_empty_end pieces))
          (slice_split_first is_line_feed text 0 cut)
          ∙ ap (map strip_carriage_return) (keeps_front (before_first is_line_feed text) rest several)
      | inr le ↦
          let whole = uncut is_line_feed text le in
          ap (λ (pieces : List (List ℕ)). map strip_carriage_return (without_empty_end pieces)) whole
          ∙ ap (map strip_carriage_return) (cond-true (has_bytes text) (text ∷ []) [] (lt-ltb 0 (length text) some))
          ∙ ap (λ (line : List ℕ). strip_carriage_return line ∷ []) (sym (before_all is_line_feed text le))
          ∙ ap (λ (rest : List ℕ). strip_carriage_return (before_first is_line_feed text) ∷ map strip_carriage_return
          (without_empty_end (slice_split is_line_feed rest))) (sym (after_none is_line_feed text le))
    ]

-- ---- words

abbrev pub is_not_blank : ℕ → Bool
is_not_blank byte = not (is_blank byte)

skip_blank : (b : Bool) (x : ℕ) (line : List ℕ) → is_blank x ≡ b
    → words line ≡ words (drop (position_or_len is_not_blank line) line)
    → words (x ∷ line) ≡ words (drop (cond (not (not b)) (1 + position_or_len is_not_blank line) 0) (x ∷ line))
unfolding words
skip_blank true x line e skipped =
    let n = position_or_len is_not_blank line in
    let one : 1 + n ≡ suc n = omega arith in
    ap (filter has_bytes) (slice_split-cons_yes is_blank x line e) ∙ skipped
    ∙ ap (λ (k : ℕ). words (drop k (x ∷ line))) (sym one)
skip_blank false x line e skipped = refl

pub skip_blanks : (line : List ℕ) → words line ≡ words (drop (position_or_len is_not_blank line) line)
skip_blanks [] = refl
skip_blanks (x ∷ line) = skip_blank (is_blank x) x line refl (skip_blanks line)

pub no_words : (line : List ℕ) → length line ≤ position_or_len is_not_blank line → words line ≡ []
unfolding words
no_words line le = skip_blanks line ∙ ap words (drop_of_length-le line le)

-- a word stands at the front where the first byte is no blank
front_word : (line : List ℕ) → 0 < position_or_len is_blank line → 0 < length line
    → words line ≡ before_first is_blank line ∷ words (after_first is_blank line)
unfolding words
front_word line some long =
    elim (cases_lt (position_or_len is_blank line) (length line)) [
      | inl cut ↦
          let kept : has_bytes (before_first is_blank line) ≡ true =
          lt-ltb 0 _ (omega (arith, length-take (position_or_len is_blank line) line)) in
          ap (filter has_bytes) (slice_split_first is_blank line 0 cut)
          ∙ cond-true (has_bytes (before_first is_blank line)) _ _ kept
      | inr le ↦
          ap (filter has_bytes) (uncut is_blank line le)
          ∙ cond-true (has_bytes line) (line ∷ []) [] (lt-ltb 0 (length line) long)
          ∙ ap (λ (word : List ℕ). word ∷ []) (sym (before_all is_blank line le))
          ∙ ap (λ (rest : List ℕ). before_first is_blank line ∷ words rest) (sym (after_none is_blank line le))
    ]

first_passes : (line : List ℕ) → 0 < length line → is_blank (get_or line 0 0) ≡ false
    → 0 < position_or_len is_blank line
first_passes [] some e = absurd (omega arith)
first_passes (x ∷ line) some e = let n = ap (λ (b : Bool). cond (not b) (1 + position_or_len is_blank line) 0) e in
    omega (arith, n)

pub first_word : (line : List ℕ) (start : ℕ) → position is_not_blank line ≡ Some start
    → words line ≡ before_first is_blank (drop start line) ∷ words (after_first is_blank (drop start line))
first_word line start e =
    let at = position_found is_not_blank line start e in
    let n : position_or_len is_not_blank line ≡ start = at.0 in
    let within : position_or_len is_not_blank line < length line = omega arith in
    let long : 0 < length (drop start line) = omega (arith, length-drop start line) in
    let here : get_or (drop start line) 0 0 ≡ get_or line (position_or_len is_not_blank line) 0 =
    get_or-drop start line 0 0 ∙ ap (λ (k : ℕ). get_or line k 0) (omega arith) in
    let byte : is_blank (get_or (drop start line) 0 0) ≡ false = ap is_blank here
    ∙ not-true _ (passes_at_first is_not_blank line 0 within) in
    skip_blanks line ∙ ap (λ (k : ℕ). words (drop k line)) n
    ∙ front_word (drop start line) (first_passes (drop start line) long byte) long
