-- The first fault of a policy's rows is that of the least faulty row.
use Rattle.std.proofs.Common.{◌≡◌, ℕ, suc, ◌+◌, ◌≤◌, Bool, true, List, [], ◌∷◌, length, Option, Err, refl, ap, ◌∙◌}
use Rattle.std.proofs.Common.{arith}
use Rattle.std.specs.Prelude.{filter_map, option_map, option_and_then, slice_get}
use Rattle.pmp_text.specs.Moments.{KnownMoments}
use Rattle.pmp_text.specs.declared.fault.Fault.{Fault}
use Rattle.pmp_text.specs.Faults.{IsLeastFault}
use Rattle.pmp_text.specs.Policies.{first_policy_fault, is_labeled, is_labeled_header, is_policy_header, policy_in}
use Rattle.pmp_text.specs.Policies.{policy_meaning, policy_of_record, policy_row_fault, policy_rows_meaning}
use Rattle.pmp_text.specs.PolicyFaults.{policy_fault_at}
use Rattle.pmp_text.specs.Tables.{behind_header, fault_or_rows, records_of, within_limit}
use Rattle.pmp_text.specs.declared.trace.reader.TheConstants.{MAX_TRACE}
use Rattle.pmp_text.proofs.LeastFaults.{Judges, judged_here, judged_as, the_first}
use Rattle.pmp_text.proofs.Rows.{by_records, policy_is, this_header}
use Rattle.pmp_text.specs.Flaws.{at_row}
use Rattle.pmp_text.specs.declared.fault.Source.TheVariants as source

abbrev Records : Type 0
Records = List (List (List ℕ))

module _ (labeled : Bool) (moments : KnownMoments) where
  -- the fault of a row, the first of which has this number
  abbrev fault_from : (number : ℕ) → Records → ℕ → Option Fault
  fault_from number rows index = option_and_then {T = List (List ℕ)} {U = Fault}
      (λ row. option_map (at_row source.Policy (number + index))
      (policy_row_fault moments.publications (policy_in labeled moments row)))
      (slice_get rows index)

  -- the same, by its number
  abbrev fault_with : Records → ℕ → (number : ℕ) → Option Fault
  fault_with rows index number = option_and_then {T = List (List ℕ)} {U = Fault}
      (λ row. option_map (at_row source.Policy number) (policy_row_fault moments.publications (policy_in labeled moments row)))
      (slice_get rows index)

  one_behind : (number : ℕ) (row : List (List ℕ)) (more : Records) (index : ℕ)
      → fault_from number (row ∷ more) (suc index) ≡ fault_from (number + 1) more index
  one_behind number row more index =
      let same : number + suc index ≡ number + 1 + index = omega arith in
      ap (fault_with more index) same

  here : (number : ℕ) (row : List (List ℕ)) (more : Records) → fault_from number (row ∷ more) 0
      ≡ option_map (at_row source.Policy number) (policy_row_fault moments.publications (policy_in labeled moments row))
  here number row more =
      let same : number + 0 ≡ number = omega arith in
      ap (fault_with (row ∷ more) 0) same

  judged_from : (rows : Records) (number : ℕ)
      → Judges (fault_from number rows) (first_policy_fault labeled moments number rows)
  judged_from [] = λ number index. refl
  judged_from (row ∷ more) = λ number.
      judged_here (fault_from number (row ∷ more)) (fault_from (number + 1) more) (one_behind number row more)
      (option_map (at_row source.Policy number) (policy_row_fault moments.publications (policy_in labeled moments row)))
      (first_policy_fault labeled moments (number + 1) more) (here number row more) (judged_from more (number + 1))

  counted_from_one : (rows : Records) (index : ℕ) → policy_fault_at labeled moments rows index ≡ fault_from 1 rows index
  counted_from_one rows index =
      let same : index + 1 ≡ 1 + index = omega arith in
      ap (fault_with rows index) same

  pub first_policy_row_is_least : (rows : Records)
      → Judges (policy_fault_at labeled moments rows) (first_policy_fault labeled moments 1 rows)
  first_policy_row_is_least rows = judged_as (fault_from 1 rows) (policy_fault_at labeled moments rows)
      (first_policy_fault labeled moments 1 rows) (counted_from_one rows) (judged_from rows 1)

pub least_policy_row_is_answered : (moments : KnownMoments) (text : List ℕ) (header : List (List ℕ)) (rows : Records)
    (fault : Fault) → length text ≤ MAX_TRACE → records_of text ≡ header ∷ rows
    → is_policy_header header ≡ true → IsLeastFault (policy_fault_at (is_labeled_header header) moments rows) fault
    → policy_meaning moments text ≡ Err fault
least_policy_row_is_answered moments text header rows fault short records named least =
    let labeled = is_labeled_header header in
    let same : is_labeled (records_of text) ≡ labeled = ap is_labeled records in
    policy_is moments text
    ∙ ap (λ (l : Bool). within_limit source.Policy (behind_header source.Policy is_policy_header (policy_rows_meaning l moments)) text) same
    ∙ by_records source.Policy is_policy_header (policy_rows_meaning labeled moments) text short
    ∙ this_header source.Policy is_policy_header (policy_rows_meaning labeled moments) (records_of text) header rows records named
    ∙ ap (λ (first : Option Fault). fault_or_rows first (filter_map (policy_of_record labeled moments) rows))
    (the_first (policy_fault_at labeled moments rows) (first_policy_fault labeled moments 1 rows) fault
    (first_policy_row_is_least labeled moments rows) least)
