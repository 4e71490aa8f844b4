-- A plain line of a trace is one record.
use Rattle.std.proofs.Common.{◌≡◌, ℕ, Bool, true, false, List, [], ◌∷◌, ◌++◌, Some, refl, sym, ap, ◌∙◌, append_assoc}
use Rattle.std.specs.Prelude.{codes, ◌==◌, ◌||◌}
use Rattle.std.specs.List.{list_any}
use Rattle.csv.specs.Quoting.{needs_byte}
use Rattle.csv.specs.declared.parser.State.TheVariants as st
use Rattle.csv.specs.Machine.{next_record}
use Rattle.csv.specs.Reading.{default_config, records, strip_bom}
use Rattle.csv.specs.Writing.{default_writer, fields_text, is_blank, needs_quotes, row_text}
use Rattle.csv.proofs.RoundTrip.{read-write-many}
use Rattle.pmp_text.specs.Moments.{KnownMoments}
use Rattle.pmp_text.specs.Tables.{is_broken, is_line_end, records_of}
use Rattle.pmp_text.specs.Steps.Views.{five_words}
use Rattle.pmp_text.specs.Traces.{FiveFields, five_fields, is_header, row_in, row_of_fields}
use Rattle.pmp_text.proofs.CutTexts.{behind_line_end, by_split}
use Rattle.pmp_text.proofs.RecordsLeft.{one_more}

abbrev Plain : List ℕ → Type 0
Plain word = needs_quotes default_writer word ≡ false

word_joins : (word words rest all : List ℕ) → words ++ rest ≡ all → (word ++ 44 ∷ words) ++ rest ≡ word ++ 44 ∷ all
word_joins word words rest all e =
    append_assoc word (44 ∷ words) rest ∙ ap (λ (l : List ℕ). word ++ 44 ∷ l) e

abbrev five : (a b c d e : List ℕ) → List (List ℕ)
five a b c d e = a ∷ b ∷ c ∷ d ∷ e ∷ []

module _ (a b c d e tail : List ℕ) where
  abbrev line : List ℕ
  line = a ++ (44 ∷ (b ++ (44 ∷ (c ++ (44 ∷ (d ++ (44 ∷ (e ++ (10 ∷ tail)))))))))

  module _ (pa : Plain a) (pb : Plain b) (pc : Plain c) (pd : Plain d) (pe : Plain e) where
    text_is : row_text default_writer (five a b c d e) ++ tail ≡ line
    unfolding is_blank fields_text
    text_is =
        let rest = 10 ∷ tail in
        let last = e ++ [] in
        let fourth = d ++ 44 ∷ last in
        let third = c ++ 44 ∷ fourth in
        let second = b ++ 44 ∷ third in
        rw (pa, pb, pc, pd, pe) (append_assoc (a ++ 44 ∷ second) (10 ∷ []) tail
        ∙ word_joins a second rest _ (word_joins b third rest _ (word_joins c fourth rest _
        (word_joins d last rest _ (append_assoc e [] rest)))))

    reads : next_record default_config st.StartRecord [] [] line ≡ Some (five a b c d e, st.StartRecord, tail)
    reads = ap (next_record default_config st.StartRecord [] []) (sym text_is)
        ∙ read-write-many a b (c ∷ d ∷ e ∷ []) tail

    pub one_line : records default_config line ≡ five a b c d e ∷ records_of (10 ∷ tail)
    one_line = one_more st.StartRecord line (five a b c d e, st.StartRecord, tail) reads
        ∙ ap (λ (more : List (List (List ℕ))). five a b c d e ∷ more) (by_split tail ∙ sym (behind_line_end 10 refl tail))

    pub behind_a_line : records_of (10 ∷ line) ≡ five a b c d e ∷ records_of (10 ∷ tail)
    behind_a_line = behind_line_end 10 refl line ∙ sym (by_split line) ∙ one_line

-- ---- a line in its words

one_less : (byte : ℕ) → needs_byte default_writer byte ≡ false → is_line_end byte ≡ false
one_less byte e = by (byte == 44) (byte == 34) (byte == 13) (byte == 10) e
  where
    by : (comma quote returns feeds : Bool) → (comma || quote || (returns || feeds) || false || false) ≡ false
        → (returns || feeds) ≡ false
    by true quote returns feeds e = absurd cc
    by false true returns feeds e = absurd cc
    by false false true feeds e = absurd cc
    by false false false true e = absurd cc
    by false false false false e = refl

or_false : (one other : Bool) → (one || other) ≡ false → (one ≡ false) × (other ≡ false)
or_false true other e = absurd cc
or_false false other e = (refl, e)

in_one_line : (word : List ℕ) → Plain word → list_any is_line_end word ≡ false
in_one_line [] plain = refl
in_one_line (byte ∷ rest) plain =
    let (here, later) = or_false (needs_byte default_writer byte) (needs_quotes default_writer rest) plain in
    rw (one_less byte here) (in_one_line rest later)

pub plain_line_is : (text a b c d e t u v w rest tail : List ℕ) → text ≡ 10 ∷ (a ++ t) → Plain a
    → t ≡ 44 ∷ (b ++ u) → Plain b → u ≡ 44 ∷ (c ++ v) → Plain c → v ≡ 44 ∷ (d ++ w) → Plain d
    → w ≡ 44 ∷ (e ++ rest) → Plain e → rest ≡ 10 ∷ tail
    → (records_of text ≡ five a b c d e ∷ records_of rest) × (is_broken (five a b c d e) ≡ false)
plain_line_is text a b c d e t u v w rest tail text_is pa t_is pb u_is pc v_is pd w_is pe rest_is = (
  rw (text_is, t_is, u_is, v_is, w_is, rest_is) (behind_a_line a b c d e tail pa pb pc pd pe),
  rw (in_one_line a pa, in_one_line b pb, in_one_line c pc, in_one_line d pd, in_one_line e pe) refl,
)

-- ---- the header
pub header_line : (tail : List ℕ) → (header : List (List ℕ)) × (is_header header ≡ true)
    × (records_of (codes "after,mode,kind,start,length" ++ 10 ∷ tail) ≡ header ∷ records_of (10 ∷ tail))
unfolding strip_bom five_fields
header_line tail = (
  five (codes "after") (codes "mode") (codes "kind") (codes "start") (codes "length"),
  refl,
  one_line (codes "after") (codes "mode") (codes "kind") (codes "start") (codes "length") tail refl refl refl refl refl,
)

-- ---- what the words of a line say

pub line_says : (moments : KnownMoments) (words : FiveFields) → is_broken (five_words words) ≡ false
    → row_in moments (five_words words) ≡ row_of_fields moments words
unfolding five_fields
line_says moments words whole = rw whole refl
