-- The reasons for a write, one by one.
use borrow.Author.Tests.{tests}
use Rattle.std.proofs.Common.{◌≡◌, ℕ, zero, suc, ◌+◌, ◌-◌, ◌<◌, ◌≤◌, Bool, true, false, cond, List, [], ◌∷◌, length}
use Rattle.std.proofs.Common.{rules, ◌/◌, ◌==◌, ◌&&◌, not, ap, map, get_or, refl, sym, ◌∙◌, inl, inr, arith}
use Rattle.std.specs.List.{range_with_len, list_any, filter}
use Rattle.std.proofs.lemmas.Bool.{and_right, eq-eqb, false≢true, lt-ltb, false_from_ne_true, true_from_ne_false, or_from, cases_Bool, cases_eq, ne_eqb}
use Rattle.std.proofs.lemmas.List.Folds.{list_any_at}
use Rattle.std.proofs.lemmas.List.FromFn.{length-range_with_len, get_or-range_with_len}
use Rattle.pmp_core.specs.declared.csr.Csr.{Csr}
use Rattle.pmp_core.specs.declared.csr.Csr.TheVariants.{Addr}
use Rattle.pmp_core.specs.declared.write_reasons.WriteReason.{WriteReason}
use Rattle.pmp_core.specs.declared.write_reasons.WriteReason.TheVariants.{Absent, Bits, Frozen, Tor, Reserved, Lockdown}
use Rattle.pmp_core.specs.declared.write_reasons.WriteReason.TheVariants.{Sticky, Bypass, Grain}
use Rattle.pmp_core.specs.Grain.{read_address}
use Rattle.pmp_core.specs.Hart.{word_addresses}
use Rattle.pmp_core.specs.RegisterFile.{RegisterFile, entry_at, is_frozen}
use Rattle.pmp_core.specs.RegisterWrite.{holds, is_address_frozen}
use Rattle.pmp_core.specs.WriteReasons.{bits_of, is_changed, is_reason, is_entry_reason, is_some_entry_reason, all_reasons}
use Rattle.pmp_core.specs.WriteReasons.{write_reasons}

-- ---- lists

filter_none : {X : Type 0} (p : X → Bool) (xs : List X) (i : ℕ) (d : X) → filter p xs ≡ [] → i < length xs
    → p (get_or xs i d) ≡ false
filter_none p [] i d none near = absurd (omega arith)
filter_none p (x ∷ xs) zero d none near =
    elim (p x) as (λ b. cond b (x ∷ filter p xs) (filter p xs) ≡ [] → b ≡ false) [
      | true ↦ λ e. absurd cc
      | false ↦ λ e. refl
    ] none
filter_none p (x ∷ xs) (suc i) d none near =
    elim (p x) as (λ b. cond b (x ∷ filter p xs) (filter p xs) ≡ [] → p (get_or xs i d) ≡ false) [
      | true ↦ λ e. absurd cc
      | false ↦ λ e. filter_none p xs i d e (omega arith)
    ] none

pub none_between : (p : ℕ → Bool) (a n : ℕ) → ((i : ℕ) → a ≤ i → i < a + n → p i ≡ false)
    → list_any p (range_with_len a n) ≡ false
none_between p a zero h = refl
none_between p a (suc n) h =
    or_from (p a) _ (h a (omega arith) (omega arith))
    (none_between p (a + 1) n (λ i low high. h i (omega arith) (omega arith)))

pub none_at : (p : ℕ → Bool) (a n i : ℕ) → list_any p (range_with_len a n) ≡ false → a ≤ i → i < a + n → p i ≡ false
none_at p a n i none low high =
    let place : get_or (range_with_len a n) (i - a) 0 ≡ i =
    get_or-range_with_len a n (i - a) 0 (omega arith) ∙ omega arith in
    false_from_ne_true (p i) (λ t. false≢true (sym none
    ∙ list_any_at p (range_with_len a n) (i - a) 0 (omega (arith, length-range_with_len a n)) (rw place t)))

pub none_in : (p : ℕ → Bool) (xs : List ℕ) → ((i : ℕ) → i < length xs → p (get_or xs i 0) ≡ false)
    → list_any p xs ≡ false
none_in p [] h = refl
none_in p (x ∷ xs) h = or_from (p x) _ (h 0 (omega arith)) (none_in p xs (λ i near. h (suc i) (omega arith)))

pub none_of : (p : ℕ → Bool) (xs : List ℕ) (i : ℕ) → list_any p xs ≡ false → i < length xs → p (get_or xs i 0) ≡ false
none_of p xs i none near = search (rules, tests, false_from_ne_true, false≢true, list_any_at)

-- ---- a reason for some entry

-- no reason holds for an entry of which the register holds nothing
pub not_own : (reason : WriteReason) (file : RegisterFile) (csr : Csr) (value i : ℕ) → holds file.profile csr i ≡ false
    → is_entry_reason reason file csr value i ≡ false
not_own reason file csr value i other = search rules

module _ (reason : WriteReason) (file : RegisterFile) (csr : Csr) (value : ℕ) where
  pub none_at_entry : is_some_entry_reason reason file csr value ≡ false → (i : ℕ) → i < length file.entries
      → is_entry_reason reason file csr value i ≡ false
  none_at_entry none i inside =
      none_at (is_entry_reason reason file csr value) 0 (length file.entries) i none (omega arith) (omega arith)

  pub none_at_entries : ((i : ℕ) → i < length file.entries → is_entry_reason reason file csr value i ≡ false)
      → is_some_entry_reason reason file csr value ≡ false
  none_at_entries each = search (rules, tests, none_between)

-- an address register's are its own entry's
pub own_reason : (reason : WriteReason) (file : RegisterFile) (k value : ℕ) → k < length file.entries
    → is_entry_reason reason file (Addr k) value k ≡ is_some_entry_reason reason file (Addr k) value
own_reason reason file k value inside = elim (cases_Bool (is_entry_reason reason file (Addr k) value k)) [
  | inl some ↦ some ∙ sym (true_from_ne_false _ (λ none.
      false≢true (sym (none_at_entry reason file (Addr k) value none k inside) ∙ some)))
  | inr none ↦ none ∙ sym (none_at_entries reason file (Addr k) value (λ i near. elim (cases_eq i k) [
    | inl here ↦ rw here none
    | inr apart ↦ not_own reason file (Addr k) value i (ne_eqb i k apart)
  ]))
]

-- an address that no lock keeps has bits that the register lacks, or is too fine
module _ (file : RegisterFile) (k value : ℕ) (inside : k < length file.entries)
    (free : is_address_frozen file k ≡ false) where
  abbrev changes : Bool
  changes = is_changed file (Addr k) value k

  abbrev is_fine : Bool
  is_fine = read_address file.profile.grain (entry_at file.entries k).configuration.matching value == value

  absent : is_reason Absent file (Addr k) value ≡ false
  absent = rw (lt-ltb k (length file.entries) inside) (and_right (not (value == 0)) false refl)

  unfrozen : is_frozen file k ≡ false
  unfrozen = search (rules, tests, free)

  frozen : is_some_entry_reason Frozen file (Addr k) value ≡ false
  frozen = sym (own_reason Frozen file k value inside) ∙ ap (λ b. b && changes) unfrozen

  tor : is_some_entry_reason Tor file (Addr k) value ≡ false
  tor = sym (own_reason Tor file k value inside) ∙ ap (λ b. (not (is_frozen file k) && b) && changes) free
      ∙ ap (λ b. b && changes) (and_right (not (is_frozen file k)) false refl)

  reserved : is_some_entry_reason Reserved file (Addr k) value ≡ false
  reserved = none_at_entries Reserved file (Addr k) value (λ i within. refl)

  lockdown : is_some_entry_reason Lockdown file (Addr k) value ≡ false
  lockdown = none_at_entries Lockdown file (Addr k) value (λ i within. refl)

  grain : is_some_entry_reason Grain file (Addr k) value ≡ not is_fine
  grain = sym (own_reason Grain file k value inside) ∙ ap (λ b. b && not is_fine) (eq-eqb k k refl)

  pub open_reasons : bits_of (map (λ reason. is_reason reason file (Addr k) value) all_reasons)
      ≡ bits_of (false ∷ not (value / word_addresses file.profile == 0) ∷ false ∷ false ∷ false ∷ false ∷ false ∷ false
      ∷ not is_fine ∷ [])
  open_reasons = (λ i. bits_of (absent i ∷ not (value / word_addresses file.profile == 0) ∷ frozen i ∷ tor i ∷ reserved i
      ∷ lockdown i ∷ false ∷ false ∷ grain i ∷ []))

-- ---- the reasons one by one

pub record HasNone (file : RegisterFile) (csr : Csr) (value : ℕ) : Type 0 where
  pub absent : is_reason Absent file csr value ≡ false
  pub bits : is_reason Bits file csr value ≡ false
  pub frozen : is_reason Frozen file csr value ≡ false
  pub tor : is_reason Tor file csr value ≡ false
  pub reserved : is_reason Reserved file csr value ≡ false
  pub lockdown : is_reason Lockdown file csr value ≡ false
  pub sticky : is_reason Sticky file csr value ≡ false
  pub bypass : is_reason Bypass file csr value ≡ false
  pub grain : is_reason Grain file csr value ≡ false

pub has_none : (file : RegisterFile) (csr : Csr) (value : ℕ) → write_reasons file csr value ≡ []
    → HasNone file csr value
has_none file csr value none =
    let each : (i : ℕ) → i < 9 → is_reason (get_or all_reasons i Absent) file csr value ≡ false =
    λ i near. filter_none (λ reason. is_reason reason file csr value) all_reasons i Absent none near in
    record {
      absent = each 0 (omega arith);
      bits = each 1 (omega arith);
      frozen = each 2 (omega arith);
      tor = each 3 (omega arith);
      reserved = each 4 (omega arith);
      lockdown = each 5 (omega arith);
      sticky = each 6 (omega arith);
      bypass = each 7 (omega arith);
      grain = each 8 (omega arith);
    }

pub no_reasons : (file : RegisterFile) (csr : Csr) (value : ℕ) → HasNone file csr value
    → write_reasons file csr value ≡ []
no_reasons file csr value h = search rules
