-- An address register is stored as written exactly where there is no reason.
use borrow.Author.Tests.{tests}
use Rattle.std.proofs.Common.{rules, ◌≡◌, ℕ, ◌-◌, ◌%◌, ◌<◌, ◌≤◌, Bool, true, false, not, ◌&&◌, ◌==◌, nat_lt}
use Rattle.std.proofs.Common.{length, refl, sym, ap, ◌∙◌, inl, inr, arith, length-set, get_or-set_same}
use Rattle.std.proofs.Math.Nat.{mod-lt, div-eq_of_lt}
use Rattle.pmp_core.proofs.Legal.{wide_bits, zero_fits}
use Rattle.std.proofs.lemmas.Bool.{cases_Bool, not-false, and_left, and_right}
use Rattle.std.proofs.lemmas.Bool.{eqb-true, eq-eqb, ne_eqb, lt-ltb}
use Rattle.std.proofs.lemmas.List.{get_or_past}
use Rattle.pmp_core.specs.declared.csr.Csr.TheVariants.{Addr}
use Rattle.pmp_core.specs.Entry.{Entry}
use Rattle.pmp_core.specs.Grain.{read_address}
use Rattle.pmp_core.specs.Hart.{word_addresses}
use Rattle.pmp_core.specs.declared.write_reasons.WriteReason.TheVariants.{Frozen, Tor, Grain}
use Rattle.pmp_core.specs.RegisterFile.{RegisterFile, reset_entry, entry_at, is_frozen, IsLegal}
use Rattle.pmp_core.specs.RegisterValue.{register_value}
use Rattle.pmp_core.specs.RegisterWrite.{is_address_frozen, written}
use Rattle.pmp_core.specs.WriteReasons.{is_changed, changes_frozen, is_low_end, is_too_fine}
use Rattle.pmp_core.proofs.Grains.{read_again, read_within, tor_most}
use Rattle.pmp_core.proofs.EachReason.{none_at_entry, none_at_entries, HasNone}
use Rattle.pmp_core.proofs.StoredBytes.{not_same}

module _ (file : RegisterFile) (legal : IsLegal file) (i value : ℕ) where
  abbrev words : ℕ
  words = word_addresses file.profile

  some : 0 < words
  some = zero_fits file.profile

  -- what the register reads of an address, by the entry's mode
  abbrev reads : ℕ → ℕ
  reads address = read_address file.profile.grain (entry_at file.entries i).configuration.matching address

  abbrev now : ℕ
  now = reads (entry_at file.entries i).address

  -- the grain divides the words
  fits : file.profile.grain - 1 ≤ file.profile.address_bits - 2
  fits = omega (arith, legal.profile.fine, wide_bits file.profile legal.profile)

  within : (address : ℕ) → address < words → reads address < words
  within address small = search (rules, tests, read_within, fits)

  nothing : (entry : Entry) → entry ≡ reset_entry
      → read_address file.profile.grain entry.configuration.matching entry.address ≡ 0
  nothing entry is = rw is (omega (arith, tor_most file.profile.grain 0))

  -- what the register reads after the write: frozen, not there, or neither
  pub reads_frozen : is_address_frozen file i ≡ true → register_value (written file (Addr i) value) (Addr i) ≡ now
  reads_frozen frozen = rw frozen refl

  pub reads_nothing : length file.entries ≤ i → register_value (written file (Addr i) value) (Addr i) ≡ 0
  reads_nothing past = search (rules, tests, nothing, get_or_past, length-set)

  pub reads_value : is_address_frozen file i ≡ false → i < length file.entries
      → register_value (written file (Addr i) value) (Addr i) ≡ reads (value % words)
  reads_value free inside = rw free (rw get_or-set_same refl)

  changed_here : is_changed file (Addr i) value i ≡ not (value == now)
  changed_here = ap (λ (b : Bool). b && not (value == now)) (eq-eqb i i refl)

  fine_here : is_too_fine file (Addr i) value i ≡ not (reads value == value)
  fine_here = ap (λ (b : Bool). b && not (reads value == value)) (eq-eqb i i refl)

  is_same : (n : ℕ) → not (value == n) ≡ false → n ≡ value
  is_same n h = sym (eqb-true value n (not-false _ h))

  module _ (none : HasNone file (Addr i) value) where
    unchanged : is_address_frozen file i ≡ true → i < length file.entries → now ≡ value
    unchanged frozen inside =
        let entry = none_at_entry Frozen file (Addr i) value none.frozen i inside in
        let low_end = none_at_entry Tor file (Addr i) value none.tor i inside in
        is_same now (sym changed_here ∙ elim (cases_Bool (is_frozen file i)) [
          | inl own ↦ rw own at entry
          | inr other ↦ rw (frozen, other) at low_end
        ])

    reads_so : i < length file.entries → reads value ≡ value
    reads_so inside =
        eqb-true (reads value) value
        (not-false _ (sym fine_here ∙ none_at_entry Grain file (Addr i) value none.grain i inside))

    zero_value : length file.entries ≤ i → value ≡ 0
    zero_value past = search rules

    mod_value : value % words ≡ value
    mod_value = search rules

    pub address_stored : register_value (written file (Addr i) value) (Addr i) ≡ value
    address_stored =
        search (rules, tests, reads_nothing, zero_value, reads_frozen, unchanged, reads_value, mod_value, reads_so)

  module _ (same : register_value (written file (Addr i) value) (Addr i) ≡ value) where
    few_bits : value < words
    few_bits = search (rules, tests, reads_nothing, some, reads_frozen, within, reads_value, mod-lt)

    -- the value is what the register reads of some address, and so of itself
    reads_again : i < length file.entries → reads value ≡ value
    reads_again inside =
        let again : (address : ℕ) → reads address ≡ value → reads value ≡ value =
        λ address is. ap reads (sym is)
        ∙ read_again file.profile.grain (entry_at file.entries i).configuration.matching address ∙ is in
        elim (cases_Bool (is_address_frozen file i)) [
          | inl frozen ↦ again _ (sym (reads_frozen frozen) ∙ same)
          | inr free ↦ again _ (sym (reads_value free inside) ∙ same)
        ]

    reads_absent : (not (value == 0) && not (nat_lt i (length file.entries))) ≡ false
    reads_absent = search (rules, tests, and_left, not_same, reads_nothing, lt-ltb, and_right)

    fine : (k : ℕ) → (changes_frozen file (Addr i) value k ≡ false) × (is_low_end file (Addr i) value k ≡ false)
    fine k = search rules

    coarse : (k : ℕ) → k < length file.entries → is_too_fine file (Addr i) value k ≡ false
    coarse k inside = search (rules, tests, fine_here, not_same, reads_again, ne_eqb)

    pub address_reasonless : HasNone file (Addr i) value
    address_reasonless =
        search (rules, tests, reads_absent, not_same, div-eq_of_lt, few_bits, none_at_entries, fine, coarse)
