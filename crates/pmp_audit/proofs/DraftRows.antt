-- A draft is read as the rows that it was made of.
use Rattle.std.proofs.Common.{◌≡◌, ℕ, ◌+◌, ◌≤◌, false, List, [], ◌∷◌, ◌++◌, None, Ok}
use Rattle.std.proofs.Common.{length, map}
use Rattle.std.proofs.Common.{refl, sym, ap, ◌∙◌, append_assoc, append-nil}
use Rattle.std.specs.Prelude.{codes, filter_map}
use Rattle.std.specs.List.{AllByRecursion}
use Rattle.std.proofs.lemmas.Bool.{le-ltb}
use Rattle.std.proofs.lemmas.List.{map-append}
use Rattle.csv.specs.declared.parser.State.TheVariants as st
use Rattle.csv.specs.Machine.{next_record}
use Rattle.csv.specs.Reading.{records_from, strip_bom}
use Rattle.pmp_text.specs.declared.policy.PolicyRow.{PolicyRow}
use Rattle.pmp_text.specs.declared.trace.reader.TheConstants.{MAX_TRACE}
use Rattle.pmp_text.specs.Moments.{KnownMoments}
use Rattle.pmp_text.specs.Policies.{first_policy_fault, nine_fields, policy_fields, policy_fields_fault, policy_in}
use Rattle.pmp_text.specs.Policies.{policy_meaning, policy_of_record, seven_fields}
use Rattle.pmp_text.specs.Reports.{fields_after}
use Rattle.pmp_text.specs.Steps.Records.{records_behind}
use Rattle.pmp_text.specs.Tables.{records_of}
use Rattle.pmp_text.proofs.RecordsLeft.{one_more}
use Rattle.pmp_audit.specs.PolicyDraft.{header_text}
use Rattle.pmp_audit.proofs.PlainRows.{ArePlain, row_read}

-- the fields of a row, and the row that they mean
pub record Entry : Type 0 where
  pub words : List (List ℕ)
  pub row : PolicyRow

abbrev pub words_in : List Entry → List (List (List ℕ))
words_in entries = map (λ entry. entry.words) entries

abbrev pub rows_in : List Entry → List PolicyRow
rows_in entries = map (λ entry. entry.row) entries

module _ (Are : KnownMoments → Type 0) (IsKept : PolicyRow → Type 0) where
  -- for these moments the fields mean the row, which has no fault
  pub record IsRead (entry : Entry) : Type 0 where
    pub said : (moments : KnownMoments) → Are moments
        → policy_in false moments entry.words ≡ Ok (policy_fields entry.row)
    pub fine : (moments : KnownMoments) → Are moments
        → policy_fields_fault moments.publications (policy_fields entry.row) ≡ None
    pub kept : IsKept entry.row

  -- the text is that of such rows
  pub record AreRows (text : List ℕ) : Type 0 where
    pub entries : List Entry
    pub are : AllByRecursion IsRead entries
    pub read : (tail : List ℕ) → records_behind st.StartRecord (text ++ tail)
        ≡ words_in entries ++ records_behind st.StartRecord tail

  pub no_rows : AreRows []
  no_rows = record { entries = []; are = tt; read = λ tail. refl }

  all_both : (one other : List Entry) → AllByRecursion IsRead one → AllByRecursion IsRead other
      → AllByRecursion IsRead (one ++ other)
  all_both [] other is too = too
  all_both (entry ∷ one) other (here, more) too = (here, all_both one other more too)

  pub both_rows : (one other : List ℕ) → AreRows one → AreRows other → AreRows (one ++ other)
  both_rows one other is too = record {
    entries = is.entries ++ too.entries;
    are = all_both is.entries too.entries is.are too.are;
    read = λ tail.
        ap (records_behind st.StartRecord) (append_assoc one other tail) ∙ is.read (other ++ tail)
        ∙ ap (λ (l : List (List (List ℕ))). words_in is.entries ++ l) (too.read tail)
        ∙ sym (append_assoc (words_in is.entries) (words_in too.entries) (records_behind st.StartRecord tail))
        ∙ ap (λ (l : List (List (List ℕ))). l ++ records_behind st.StartRecord tail)
        (sym (map-append (λ (entry : Entry). entry.words) is.entries too.entries));
  }

  pub one_row : (first next : List ℕ) (more : List (List ℕ)) (row : PolicyRow) → ArePlain (first ∷ next ∷ more)
      → IsRead (record { words = first ∷ next ∷ more; row = row }) → AreRows (first ++ fields_after (next ∷ more))
  one_row first next more row plain is = record {
    entries = record { words = first ∷ next ∷ more; row = row } ∷ [];
    are = (is, tt);
    read = λ tail. one_more st.StartRecord ((first ++ fields_after (next ∷ more)) ++ tail)
        (first ∷ next ∷ more, st.StartRecord, tail) (row_read first next more tail plain);
  }

  -- ---- the whole text

  module _ (moments : KnownMoments) (known : Are moments) where
    no_fault : (number : ℕ) (entries : List Entry) → AllByRecursion IsRead entries
        → first_policy_fault false moments number (words_in entries) ≡ None
    no_fault number [] are = refl
    no_fault number (entry ∷ more) (is, rest) =
        rw (is.said moments known, is.fine moments known) (no_fault (number + 1) more rest)

    all_rows : (entries : List Entry) → AllByRecursion IsRead entries
        → filter_map (policy_of_record false moments) (words_in entries) ≡ map policy_fields (rows_in entries)
    all_rows [] are = refl
    all_rows (entry ∷ more) (is, rest) =
        rw (is.said moments known) (ap (λ l. policy_fields entry.row ∷ l) (all_rows more rest))

    abbrev named : List (List ℕ)
    named = codes "modes" ∷ codes "kind" ∷ codes "first" ∷ codes "last" ∷ codes "demand" ∷ []

    abbrev header : List (List ℕ)
    header = codes "from" ∷ codes "to" ∷ named

    nothing_left : records_behind st.StartRecord [] ≡ []
    unfolding records_from next_record
    nothing_left = refl

    module _ (body : List ℕ) (is : AreRows body) where
      records : records_of (header_text ++ body) ≡ header ∷ words_in is.entries
      unfolding strip_bom
      records =
          one_more st.StartRecord (header_text ++ body) (header, st.StartRecord, body)
          (row_read (codes "from") (codes "to") named
          body (refl, (refl, (refl, (refl, (refl, (refl, (refl, tt))))))))
          ∙ ap (λ (l : List (List (List ℕ))). header ∷ l) (ap (records_behind st.StartRecord) (sym (append-nil body))
          ∙ is.read [] ∙ ap (λ (l : List (List (List ℕ))). words_in is.entries ++ l) nothing_left
          ∙ append-nil (words_in is.entries))

      pub meaning : length (header_text ++ body) ≤ MAX_TRACE
          → policy_meaning moments (header_text ++ body) ≡ Ok (map policy_fields (rows_in is.entries))
      unfolding policy_meaning seven_fields nine_fields
      meaning short = rw (le-ltb _ _ short, records, no_fault 1 is.entries is.are, all_rows is.entries is.are) refl
