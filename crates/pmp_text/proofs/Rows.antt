-- Reading row by row gives what all rows mean.
use Rattle.std.proofs.Common.{◌≡◌, ℕ, ◌+◌, ◌<◌, ◌≤◌, Bool, true, cond, List, [], ◌∷◌, ◌++◌, length, Ok}
use Rattle.std.proofs.Common.{None, Result, Err, refl, sym, ap, ◌∙◌, append_assoc}
use Rattle.std.specs.Prelude.{filter_map}
use Rattle.std.proofs.lemmas.Bool.{cond-true, cond-false, lt-ltb, le-ltb}
use Rattle.pmp_text.specs.declared.refusal.Refusal.TheVariants.{BadHeader, TooLong}
use Rattle.pmp_text.specs.Moments.{KnownMoments}
use Rattle.pmp_text.specs.declared.fault.Fault.{Fault}
use Rattle.pmp_text.specs.declared.fault.Source.{Source}
use Rattle.pmp_text.specs.Tables.{behind_header, fault_or_rows, records_of, within_limit}
use Rattle.pmp_text.specs.Traces.{is_header, rows_meaning, trace_meaning}
use Rattle.pmp_text.specs.declared.policy.row_fields.PolicyFields.{PolicyFields}
use Rattle.pmp_text.specs.Policies.{first_policy_fault, policy_meaning, policy_of_record, policy_rows_meaning, policy_in}
use Rattle.pmp_text.specs.Policies.{is_labeled, is_policy_header, policy_row_fault}
use Rattle.pmp_text.specs.declared.trace.reader.TheConstants.{MAX_TRACE}
use Rattle.pmp_text.specs.Flaws.{at_row, as_whole}
use Rattle.pmp_text.specs.declared.fault.Source.TheVariants as source

module _ (labeled : Bool) (moments : KnownMoments) where
  -- what is meant where so many rows of a policy were read, which say this, and these records are left
  abbrev pub with_policy_read : (count : ℕ) → List PolicyFields → List (List (List ℕ))
      → Result (List PolicyFields) Fault
  with_policy_read count rows left = fault_or_rows (first_policy_fault labeled moments (count + 1) left)
      (rows ++ filter_map (policy_of_record labeled moments) left)

  -- one row more of it is read
  pub one_policy_row : (count : ℕ) (rows : List PolicyFields) (row : PolicyFields)
      (fields : List (List ℕ)) (left : List (List (List ℕ))) → policy_in labeled moments fields ≡ Ok row
      → policy_row_fault moments.publications (policy_in labeled moments fields) ≡ None
      → with_policy_read count rows (fields ∷ left) ≡ with_policy_read (count + 1) (rows ++ row ∷ []) left
  one_policy_row count rows row fields left says fine =
      let said = filter_map (policy_of_record labeled moments) left in
      let fault : first_policy_fault labeled moments (count + 1) (fields ∷ left)
      ≡ first_policy_fault labeled moments (count + 1 + 1) left = rw fine refl in
      let picked : filter_map (policy_of_record labeled moments) (fields ∷ left) ≡ row ∷ said = rw says refl in
      (λ i. fault_or_rows (fault i) (rows ++ picked i))
      ∙ ap (λ (all : List PolicyFields). fault_or_rows (first_policy_fault labeled moments (count + 1 + 1) left) all)
      (sym (append_assoc rows (row ∷ []) said))

-- ---- from the header on

module _ {X : Type 0} (source : Source) (is_header : List (List ℕ) → Bool) (meaning : List (List (List ℕ)) → Result (List X) Fault)
  where
    pub long_text : (text : List ℕ) → MAX_TRACE < length text
        → within_limit source (behind_header source is_header meaning) text ≡ Err (at_row source 0 (as_whole TooLong))
    long_text text long = cond-true _ _ _ (lt-ltb MAX_TRACE (length text) long)

    pub by_records : (text : List ℕ) → length text ≤ MAX_TRACE
        → within_limit source (behind_header source is_header meaning) text ≡ behind_header source is_header meaning (records_of text)
    by_records text short = cond-false _ _ _ (le-ltb MAX_TRACE (length text) short)

    module _ (records : List (List (List ℕ))) where
      module _ (header : List (List ℕ)) (rows : List (List (List ℕ))) (are : records ≡ header ∷ rows) where
        abbrev with_header : Bool → Result (List X) Fault
        with_header is = cond is (meaning rows) (Err (at_row source 0 (as_whole BadHeader)))

        pub this_header : is_header header ≡ true → behind_header source is_header meaning records ≡ meaning rows
        this_header e = ap (behind_header source is_header meaning) are ∙ ap with_header e

-- ---- of a trace, and of a policy

pub trace_is : (moments : KnownMoments) (text : List ℕ) → trace_meaning moments text
    ≡ within_limit source.Trace (behind_header source.Trace is_header (rows_meaning moments)) text
unfolding trace_meaning
trace_is moments text = refl

pub policy_is : (moments : KnownMoments) (text : List ℕ) → policy_meaning moments text
    ≡ within_limit source.Policy (behind_header source.Policy is_policy_header (policy_rows_meaning (is_labeled (records_of text)) moments)) text
unfolding policy_meaning
policy_is moments text = refl
