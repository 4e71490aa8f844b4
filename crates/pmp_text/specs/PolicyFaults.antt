-- Which row of a policy is at fault.
use Rattle.std.specs.Prelude.{◌≡◌, ℕ, ◌+◌, ◌≤◌, List, ◌∷◌, length, Bool, true, Option, None, Err, MatchOption}
use Rattle.std.specs.Prelude.{option_and_then, option_map, slice_get}
use Rattle.pmp_text.specs.declared.fault.Fault.{Fault}
use Rattle.pmp_text.specs.Moments.{KnownMoments}
use Rattle.pmp_text.specs.Faults.{IsLeastFault}
use Rattle.pmp_text.specs.Policies.{first_policy_fault, is_labeled_header, is_policy_header, policy_in}
use Rattle.pmp_text.specs.Policies.{policy_meaning, policy_row_fault}
use Rattle.pmp_text.specs.Tables.{records_of}
use Rattle.pmp_text.specs.declared.trace.reader.TheConstants.{MAX_TRACE}
use Rattle.pmp_text.specs.Flaws.{at_row}
use Rattle.pmp_text.specs.declared.fault.Source.TheVariants as source

-- the fault of the row with this index alone
abbrev pub policy_fault_at : (labeled : Bool) → (moments : KnownMoments) → List (List (List ℕ)) → (index : ℕ)
    → Option Fault
policy_fault_at labeled moments rows index = option_and_then
    (λ row. option_map (at_row source.Policy (index + 1)) (policy_row_fault moments.publications (policy_in labeled moments row)))
    (slice_get rows index)

-- the first fault is that of the first faulty row; if there is none, no row is faulty
abbrev pub FirstPolicyFaultLaw : Type 0
FirstPolicyFaultLaw = (labeled : Bool) (moments : KnownMoments) (rows : List (List (List ℕ)))
    → MatchOption (first_policy_fault labeled moments 1 rows)
    ((index : ℕ) → policy_fault_at labeled moments rows index ≡ None)
    (λ fault. IsLeastFault (policy_fault_at labeled moments rows) fault)

-- a text with a header that isn't too long is refused with the fault of its first faulty row, if it has one
abbrev pub LeastPolicyFaultLaw : Type 0
LeastPolicyFaultLaw = (moments : KnownMoments) (text : List ℕ) (header : List (List ℕ)) (rows : List (List (List ℕ)))
    (fault : Fault)
    → length text ≤ MAX_TRACE → records_of text ≡ header ∷ rows → is_policy_header header ≡ true
    → IsLeastFault (policy_fault_at (is_labeled_header header) moments rows) fault
    → policy_meaning moments text ≡ Err fault
