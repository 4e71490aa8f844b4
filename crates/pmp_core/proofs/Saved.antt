-- Registers saved and restored.
use borrow.Author.Tests.{tests}
use Rattle.std.proofs.Common.{rules, ◌≡◌, ℕ, ◌+◌, ◌<◌, ◌≤◌, Bool, true, false, List, length, map, set}
use Rattle.std.proofs.Common.{cond, replicate}
use Rattle.std.proofs.Math.Nat.{mod-lt, mod-eq_of_lt}
use Rattle.std.proofs.Common.{slice_index, refl, sym, ap, ◌∙◌, inl, inr, arith}
use Rattle.std.specs.List.{range_with_len}
use Rattle.std.proofs.lemmas.Bool.{cases_lt}
use Rattle.std.proofs.lemmas.List.{get_or_past, get_or-replicate}
use Rattle.std.proofs.lemmas.List.FromFn.{fill_by_all, length-map-range_with_len, get_or-map-range_with_len}
use Rattle.pmp_core.specs.Entry.{Entry}
use Rattle.pmp_core.specs.declared.saved_registers.SavedRegisters.{SavedRegisters}
use Rattle.pmp_core.specs.Configuration.{Configuration, byte_of, is_reserved}
use Rattle.pmp_core.specs.Mseccfg.{mseccfg_value, mseccfg_fields}
use Rattle.pmp_core.specs.RegisterFile.{RegisterFile, reset_entry, reset_mseccfg, reset_file, entry_at}
use Rattle.pmp_core.specs.RegisterFile.{IsLegal}
use Rattle.pmp_core.specs.Grain.{selectable}
use Rattle.pmp_core.specs.RegisterWrite.{admitted}
use Rattle.pmp_core.specs.declared.hart.Profile.{Profile}
use Rattle.pmp_core.specs.Hart.{profile_with, word_addresses}
use Rattle.pmp_core.specs.SavedRegisters.{hart_number, saved_registers, saved_hart, hart_in, fields_in, restored_entry, restored_entries}
use Rattle.pmp_core.specs.SavedRegisters.{restored_file, zero_registers}
use Rattle.pmp_core.specs.SavedLaw.{SavedLaw}
use Rattle.pmp_core.proofs.HartNumbers.{is_hart, number_back}
use Rattle.pmp_core.proofs.Grains.{selectable_other}
use Rattle.pmp_core.proofs.Legal.{reset_at, stored_chosen, stored_unreserved, zero_fits}
use Rattle.pmp_core.proofs.Places.{entries_by}
use Rattle.pmp_core.proofs.StoredBytes.{configuration_back}

-- ---- a table that is filled place by place

-- f at each place below this one, and zeros from there on
pub record IsFilledTo (f : ℕ → ℕ) (xs : List ℕ) (place : ℕ) : Type 0 where
  pub len : length xs ≡ 64
  pub done : (k : ℕ) → k < place → slice_index xs k ≡ f k
  pub rest : (k : ℕ) → place ≤ k → k < 64 → slice_index xs k ≡ 0

pub filled_more : (f : ℕ → ℕ) (xs : List ℕ) (place x : ℕ) → place < 64 → x ≡ f place → IsFilledTo f xs place
    → IsFilledTo f (set xs place x) (place + 1)
filled_more f xs place x inside is so_far = search rules

-- a table so filled is all of f, where f is zero from there on
pub filled : (f : ℕ → ℕ) (xs : List ℕ) (place : ℕ) → IsFilledTo f xs place
    → ((k : ℕ) → place ≤ k → f k ≡ 0) → xs ≡ map f (range_with_len 0 64)
filled f xs place so_far none = fill_by_all f xs 64 0 so_far.len (λ k inside. elim (cases_lt k place) [
  | inl lt ↦ so_far.done k lt
  | inr le ↦ so_far.rest k le inside ∙ sym (none k le)
])

-- ---- restored entries

module _ (saved : SavedRegisters) where
  pub restored_at : (n i : ℕ) → i < n → entry_at (restored_entries saved n) i ≡ restored_entry saved i
  restored_at n i inside =
      get_or-map-range_with_len (restored_entry saved) 0 n i i reset_entry inside (omega arith)

  pub length-restored : (n : ℕ) → length (restored_entries saved n) ≡ n
  length-restored n = length-map-range_with_len (restored_entry saved) 0 n

  past : (n i : ℕ) → n ≤ i → entry_at (restored_entries saved n) i ≡ reset_entry
  past n i over = get_or_past (restored_entries saved n) i reset_entry (omega (arith, length-restored n))

  restored_words : (n i : ℕ) → (entry_at (restored_entries saved n) i).address < word_addresses (hart_in saved)
  restored_words n i = search (rules, tests, restored_at, mod-lt, zero_fits, past)

  restored_unreserved : (n : ℕ) → (fields_in saved).mml ≡ false
      → (i : ℕ) → is_reserved (entry_at (restored_entries saved n) i).configuration ≡ false
  restored_unreserved n off i = search (rules, tests, restored_at, stored_unreserved, past)

  restored_chosen : (n i : ℕ) → let c = (entry_at (restored_entries saved n) i).configuration in
      selectable (hart_in saved).grain c ≡ c
  restored_chosen n i = elim (cases_lt i n) [
    | inl inside ↦ rw (restored_at n i inside)
        (stored_chosen (hart_in saved).grain (fields_in saved).mml true reset_entry.configuration
        (slice_index saved.configurations i) (selectable_other (hart_in saved).grain reset_entry.configuration refl))
    | inr over ↦ rw (past n i over) (selectable_other (hart_in saved).grain reset_entry.configuration refl)
  ]

  no_fields : (hart_in saved).has_smepmp ≡ false → fields_in saved ≡ reset_mseccfg
  no_fields none = rw none refl

  pub restored_legal : IsLegal (restored_file saved)
  unfolding restored_file
  restored_legal =
      search (rules, tests, is_hart, length-restored, restored_words, restored_unreserved, restored_chosen, no_fields)

pub restored_zero : restored_file zero_registers ≡ reset_file (profile_with 16)
unfolding restored_file saved_hart
restored_zero = refl

-- ---- what was saved is restored

pub fields_back : (a b c : Bool) → mseccfg_fields (mseccfg_value (record { mml = a; mmwp = b; rlb = c }))
    ≡ record { mml = a; mmwp = b; rlb = c }
fields_back a b c = search rules

-- a legal configuration is stored as it is
pub stored_as_is : (mml : Bool) (old c : Configuration) → (mml ≡ false → is_reserved c ≡ false)
    → admitted mml true old c ≡ c
stored_as_is mml old c unreserved = search rules

module _ (file : RegisterFile) (legal : IsLegal file) where
  address_at : (k : ℕ) → k < 64 → slice_index (saved_registers file).addresses k ≡ (entry_at file.entries k).address
  unfolding saved_registers
  address_at k inside =
      get_or-map-range_with_len (λ i. (entry_at file.entries i).address) 0 64 k k 0 inside (omega arith)

  byte_at_entry : (k : ℕ) → k < 64
      → slice_index (saved_registers file).configurations k ≡ byte_of (entry_at file.entries k).configuration
  unfolding saved_registers
  byte_at_entry k inside =
      get_or-map-range_with_len (λ i. byte_of (entry_at file.entries i).configuration) 0 64 k k 0 inside (omega arith)

  hart_back : hart_in (saved_registers file) ≡ file.profile
  unfolding saved_registers
  hart_back = number_back file.profile legal.profile

  fields_kept : (has : Bool) → file.profile.has_smepmp ≡ has
      → cond has (mseccfg_fields (saved_registers file).mseccfg) reset_mseccfg ≡ file.mseccfg
  unfolding saved_registers
  fields_kept has e = search rules

  mseccfg_back : fields_in (saved_registers file) ≡ file.mseccfg
  mseccfg_back = rw hart_back (fields_kept file.profile.has_smepmp refl)

  entry_back : (k : ℕ) → k < length file.entries → entry_at file.entries k ≡ restored_entry (saved_registers file) k
  entry_back k inside =
      search (rules, tests, mod-eq_of_lt, stored_as_is, address_at, byte_at_entry, mseccfg_back, hart_back, configuration_back)

  pub restored_saved : restored_file (saved_registers file) ≡ file
  unfolding restored_file
  restored_saved = search (rules, tests, mseccfg_back, hart_back, entries_by, entry_back)

pub saved_law : SavedLaw
saved_law = restored_saved

-- ---- reset

zeros : (f : ℕ → ℕ) → ((k : ℕ) → f k ≡ 0) → replicate 64 0 ≡ map f (range_with_len 0 64)
zeros f none = fill_by_all f (replicate 64 0) 64 0 refl (λ k inside. get_or-replicate 64 k 0 0 inside ∙ sym (none k))

pub saved_reset : (profile : Profile) (number : ℕ) → number ≡ hart_number profile
    → (let numbers : SavedRegisters = record {
      addresses = replicate 64 0;
      configurations = replicate 64 0;
      mseccfg = 0;
      entries = number;
    } in numbers ≡ saved_registers (reset_file profile))
unfolding saved_registers
saved_reset profile number is =
    let entries = (reset_file profile).entries in
    let address : ℕ → ℕ = λ i. (entry_at entries i).address in
    let byte : ℕ → ℕ = λ i. byte_of (entry_at entries i).configuration in
    let numbers : List ℕ → List ℕ → ℕ → SavedRegisters = λ addresses configurations n. record {
      addresses = addresses;
      configurations = configurations;
      mseccfg = 0;
      entries = n;
    } in
    ap (λ (xs : List ℕ). numbers xs (replicate 64 0) number)
    (zeros address (λ k. ap (λ (e : Entry). e.address) (reset_at profile.entries k)))
    ∙ ap (λ (xs : List ℕ). numbers (map address (range_with_len 0 64)) xs number)
    (zeros byte (λ k. ap (λ (e : Entry). byte_of e.configuration) (reset_at profile.entries k)))
    ∙ ap (numbers (map address (range_with_len 0 64)) (map byte (range_with_len 0 64))) is

pub ruleset saving_laws = (saved_law, restored_legal, restored_zero)
