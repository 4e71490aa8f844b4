-- Bytes that end by LF: their lines stand before those of what follows.
use Rattle.std.proofs.Common.{◌≡◌, ℕ, ◌<◌, Bool, true, false, cond, List, [], ◌∷◌, ◌++◌, length, map, refl, sym, ap}
use Rattle.std.proofs.Common.{◌∙◌, append_assoc, append-nil, arith}
use Rattle.std.specs.List.{slice_split, onto_first}
use Rattle.std.proofs.lemmas.List.{map-append}
use Rattle.std.proofs.lemmas.List.Splits.{length-slice_split}
use Rattle.std.specs.Str.Lines.{strip_carriage_return}
use Rattle.pmp_text.specs.Lines.{is_line_feed, lines, without_empty_end}

abbrev parts : List ℕ → List (List ℕ)
parts text = slice_split is_line_feed text

some_parts : (text : List ℕ) → 0 < length (parts text)
some_parts text = omega (arith, length-slice_split is_line_feed text)

onto_front : (x : ℕ) (front back : List (List ℕ)) → 0 < length front
    → onto_first x (front ++ back) ≡ onto_first x front ++ back
onto_front x [] back some = absurd (omega arith)
onto_front x (part ∷ front) back some = refl

by_byte : (b : Bool) (x : ℕ) (front back : List (List ℕ)) → 0 < length front
    → cond b ([] ∷ (front ++ back)) (onto_first x (front ++ back))
    ≡ cond b ([] ∷ front) (onto_first x front) ++ back
by_byte true x front back some = refl
by_byte false x front back some = onto_front x front back some

parts_append : (text more : List ℕ) → parts (text ++ 10 ∷ more) ≡ parts text ++ parts more
parts_append [] more = refl
parts_append (x ∷ text) more =
    ap (λ (all : List (List ℕ)). cond (is_line_feed x) ([] ∷ all) (onto_first x all)) (parts_append text more)
    ∙ by_byte (is_line_feed x) x (parts text) (parts more) (some_parts text)

ends_later : (front back : List (List ℕ)) → 0 < length back
    → without_empty_end (front ++ back) ≡ front ++ without_empty_end back
ends_later [] back some = refl
ends_later (part ∷ []) [] some = absurd (omega arith)
ends_later (part ∷ []) (next ∷ back) some = refl
ends_later (part ∷ next ∷ front) back some =
    ap (λ (l : List (List ℕ)). part ∷ l) (ends_later (next ∷ front) back some)

lines_behind : (text more : List ℕ) → lines (text ++ 10 ∷ more) ≡ map strip_carriage_return (parts text) ++ lines more
unfolding lines
lines_behind text more =
    ap (λ (all : List (List ℕ)). map strip_carriage_return (without_empty_end all)) (parts_append text more)
    ∙ ap (map strip_carriage_return) (ends_later (parts text) (parts more) (some_parts more))
    ∙ map-append strip_carriage_return (parts text) (without_empty_end (parts more))

no_line : lines [] ≡ []
unfolding lines
no_line = refl

-- whatever follows these bytes, its lines stand behind theirs
pub record AreWhole (text : List ℕ) : Type 0 where
  pub apart : (more : List ℕ) → lines (text ++ more) ≡ lines text ++ lines more

pub none_whole : AreWhole []
none_whole = record { apart = λ more. ap (λ (l : List (List ℕ)). l ++ lines more) (sym no_line) }

pub ended_whole : (text : List ℕ) → AreWhole (text ++ 10 ∷ [])
ended_whole text = record {
  apart = λ more.
      ap lines (append_assoc text (10 ∷ []) more) ∙ lines_behind text more
      ∙ ap (λ (l : List (List ℕ)). l ++ lines more)
      (sym (lines_behind text [] ∙ ap (λ (l : List (List ℕ)). map strip_carriage_return (parts text) ++ l) no_line
      ∙ append-nil (map strip_carriage_return (parts text))));
}

pub both_whole : (one other : List ℕ) → AreWhole one → AreWhole other → AreWhole (one ++ other)
both_whole one other w v = record {
  apart = λ more.
      ap lines (append_assoc one other more) ∙ w.apart (other ++ more)
      ∙ ap (λ (l : List (List ℕ)). lines one ++ l) (v.apart more)
      ∙ sym (append_assoc (lines one) (lines other) (lines more))
      ∙ ap (λ (l : List (List ℕ)). l ++ lines more) (sym (w.apart other));
}
