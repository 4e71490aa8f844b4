-- What a write to the numbers of a unit moved.
use borrow.Author.Tests.{tests}
use Rattle.std.proofs.Common.{rules, ◌≡◌, ◌≢◌, ℕ, zero, suc, ◌+◌, ◌*◌, ◌<◌, ◌≤◌, true, false, Option, None, refl, sym, ap, ◌∙◌, inl, inr, arith}
use Rattle.std.proofs.lemmas.Bool.{cases_Bool, cases_eq, cases_lt, eq-eqb, ne_eqb}
use Rattle.std.proofs.lemmas.List.{get_or_past}
use Rattle.std.proofs.Common.{get_or-set_same, length, length-set, slice_set, ◌%◌}
use Rattle.pmp_core.specs.declared.csr.Csr.{Csr}
use Rattle.pmp_core.specs.declared.configuration.AddressMatching.{AddressMatching}
use Rattle.pmp_core.specs.declared.csr.Csr.TheVariants.{Addr, Cfg}
use Rattle.pmp_core.specs.declared.range.ByteRange.{ByteRange}
use Rattle.pmp_core.specs.declared.register_write.Written.{Written}
use Rattle.pmp_core.specs.declared.saved_registers.SavedRegisters.{SavedRegisters}
use Rattle.pmp_core.specs.declared.span.Span.{Span}
use Rattle.pmp_core.specs.Bytes.{byte}
use Rattle.pmp_core.specs.Configuration.{Configuration, byte_of, configuration_of}
use Rattle.pmp_core.specs.Moved.{AreAlikeBeside, joined, moved_among, moved_at, moved_between, moved_by}
use Rattle.pmp_core.specs.Entry.{Entry}
use Rattle.pmp_core.specs.Hart.{bytes_in, holds_byte_of, word_addresses}
use Rattle.pmp_core.specs.Matching.{low_address}
use Rattle.pmp_core.specs.Ranges.{range_as, range_by, range_of, range_on}
use Rattle.pmp_core.specs.RegisterFile.{RegisterFile, entry_at, reset_entry}
use Rattle.pmp_core.specs.RegisterValue.{configuration_word}
use Rattle.pmp_core.specs.RegisterWrite.{address_written, is_address_frozen, is_tor, written}
use Rattle.pmp_core.specs.SavedRegisters.{hart_in, restored_file}
use Rattle.pmp_core.specs.Span.{span_in}
use Rattle.pmp_core.specs.Writing.{IsWritten}
use Rattle.pmp_core.proofs.Configuring.{held, most_bytes}
use Rattle.pmp_core.proofs.Legal.{length-written, profile-written}
use Rattle.pmp_core.proofs.Locks.{other_address}
use Rattle.pmp_core.proofs.Moves.{beside_by, kept_at, none_by, past_at}
use Rattle.pmp_core.proofs.Restored.{profile_in}
use Rattle.pmp_core.proofs.Saved.{restored_legal}
use Rattle.pmp_core.proofs.Writes.{byte_once, kept_address, word_bytes, word_entry}

module _ (old new : SavedRegisters) (csr : Csr) (value : ℕ) (answer : Written)
    (is : IsWritten old new csr value answer) where
  pub hart_kept : hart_in new ≡ hart_in old
  hart_kept = search (rules, tests, profile_in, profile-written)

  pub none_moved : answer.is_changed ≡ false → None ≡ moved_by (restored_file old) (restored_file new) csr
  none_moved same = rw (is.stored.same same) (sym (none_by (restored_file old) csr))

  pub beside_written : (moved : Option Span) → moved ≡ moved_by (restored_file old) (restored_file new) csr
      → AreAlikeBeside (restored_file old) (restored_file new) moved
  beside_written moved = search (rules, tests, beside_by, restored_legal)

-- ---- an address register

same_at : (one other : RegisterFile) (i : ℕ)
    → (entry_at other.entries i).configuration ≡ (entry_at one.entries i).configuration
    → moved_at one other i ≡ moved_between (range_of one i) (range_of other i)
unfolding moved_at
same_at one other i same = rw (eq-eqb _ _ (ap byte_of same)) refl

abbrev own_address : RegisterFile → (j value : ℕ) → Entry
own_address file j value = record (entry_at file.entries j) { address = value % word_addresses file.profile }

configuration_kept : (file : RegisterFile) (j value k : ℕ)
    → (entry_at (address_written file j value) k).configuration ≡ (entry_at file.entries k).configuration
configuration_kept file j value k = elim (cases_Bool (is_address_frozen file j)) [
  | inl frozen ↦ rw frozen refl
  | inr free ↦ elim (cases_eq k j) [
    | inl here ↦ elim (cases_lt j (length file.entries)) [
      | inl inside ↦ rw (free, here) (rw (get_or-set_same file.entries j (own_address file j value) reset_entry inside) refl)
      | inr past ↦ rw (free, here) (ap (λ (e : Entry). e.configuration)
          (get_or_past (slice_set file.entries j (own_address file j value)) j reset_entry
          (omega (arith, length-set file.entries j (own_address file j value), past))
          ∙ sym (get_or_past file.entries j reset_entry past)))
    ]
    | inr apart ↦ ap (λ (e : Entry). e.configuration) (other_address file j value k apart)
  ]
]

two_among : (one other : RegisterFile) (j : ℕ)
    → moved_among one other j 2 ≡ joined (moved_at one other j) (moved_at one other (j + 1))
unfolding moved_among
two_among one other j = let here : j + 0 ≡ j = omega arith in rw here refl

pub address_moved : (file after : RegisterFile) (j value : ℕ) → after ≡ written file (Addr j) value
    → joined (moved_between (range_of file j) (range_of after j))
    (moved_between (range_of file (j + 1)) (range_of after (j + 1))) ≡ moved_by file after (Addr j)
unfolding moved_by
address_moved file after j value is = search (rules, tests, configuration_kept, two_among, same_at)

-- an entry's range as far as it moves with the address before it: if it is TOR
abbrev pub IsTorRange : RegisterFile → ℕ → ByteRange → Type 0
IsTorRange file i range =
    (is_tor (entry_at file.entries i).configuration.matching ≡ true → range ≡ range_of file i)
    × (is_tor (entry_at file.entries i).configuration.matching ≡ false → range ≡ record { start = 0; end = 0 })

without_low : (grain : ℕ) (m : AddressMatching) (low other address : ℕ) → is_tor m ≡ false
    → range_by grain m low address ≡ range_by grain m other address
without_low grain m low other address not_tor = search (rules, tests)

same_range : (range : ByteRange) → None ≡ moved_between range range
same_range range = search (rules, tests)

module _ (file after : RegisterFile) (j value : ℕ) (is : after ≡ written file (Addr j) value) where
  next_matching : (entry_at after.entries (j + 1)).configuration ≡ (entry_at file.entries (j + 1)).configuration
  next_matching = rw is (configuration_kept file j value (j + 1))

  next_stays : is_tor (entry_at file.entries (j + 1)).configuration.matching ≡ false
      → range_of after (j + 1) ≡ range_of file (j + 1)
  unfolding range_on
  next_stays other =
      let apart : j + 1 ≢ j = omega arith in
      let same = other_address file j value (j + 1) apart in
      rw (is, same) (without_low file.profile.grain (entry_at file.entries (j + 1)).configuration.matching _ _
      (entry_at file.entries (j + 1)).address other)

  pub next_moves : (was now : ByteRange) → IsTorRange file (j + 1) was → IsTorRange after (j + 1) now
      → moved_between was now ≡ moved_between (range_of file (j + 1)) (range_of after (j + 1))
  next_moves was now old new = elim (cases_Bool (is_tor (entry_at file.entries (j + 1)).configuration.matching)) [
    | inl tor ↦ (λ k. moved_between (old.0 tor k) (new.0 (rw next_matching tor) k))
    | inr other ↦ (λ k. moved_between (old.1 other k) (new.1 (rw next_matching other) k)) ∙ sym (same_range (record { start = 0; end = 0 }))
        ∙ same_range (range_of file (j + 1)) ∙ ap (moved_between (range_of file (j + 1))) (sym (next_stays other))
  ]

-- ---- a configuration register

pub joined_none : (one : Option Span) → joined one None ≡ one
joined_none one = search rules

module _ (before : RegisterFile) (q value : ℕ) where
  abbrev after : RegisterFile
  after = written before (Cfg q) value

  low_kept : (i : ℕ) → low_address after.entries i ≡ low_address before.entries i
  low_kept zero = refl
  low_kept (suc i) = kept_address before q value i

  same_as : (m : AddressMatching) (i : ℕ)
      → range_as after.profile after.entries m i ≡ range_as before.profile before.entries m i
  same_as m i = rw (low_kept i, kept_address before q value i) refl

  abbrev was : ℕ → Configuration
  was i = (entry_at before.entries i).configuration

  abbrev is : ℕ → Configuration
  is i = (entry_at after.entries i).configuration

  same_moves : (i : ℕ) → is i ≡ was i → None ≡ moved_at before after i
  same_moves i same = sym (kept_at before after i refl
      (λ j. record { configuration = same j; address = kept_address before q value i j }) (low_kept i))

  other_moves : (i : ℕ) → ¬ (byte_of (is i) ≡ byte_of (was i))
      → joined (span_in (range_of after i)) (span_in (range_as after.profile after.entries (was i).matching i))
      ≡ moved_at before after i
  unfolding moved_at range_on
  other_moves i differs = rw (ne_eqb (byte_of (is i)) (byte_of (was i)) differs)
      (ap (λ (r : ByteRange). joined (span_in (range_of after i)) (span_in r)) (same_as (was i).matching i))

  module _ (old : ℕ) (old_is : old ≡ configuration_word before q) (place : ℕ) (there : place < bytes_in before.profile q) where
    near : place < 8
    near = omega (arith, there, most_bytes before.profile q)

    holds : holds_byte_of before.profile q (4 * q + place) ≡ true
    holds = held before.profile q (4 * q + place) (omega arith) (omega (arith, there))

    byte_was : byte old place ≡ byte_of (was (4 * q + place))
    byte_was = word_bytes before q old (sym old_is) place near ∙ rw holds refl

    byte_is : byte (configuration_word after q) place ≡ byte_of (is (4 * q + place))
    byte_is = word_bytes after q (configuration_word after q) refl place near ∙ rw holds refl

    pub same_byte : byte (configuration_word after q) place ≡ byte old place → None ≡ moved_at before after (4 * q + place)
    same_byte same = same_moves (4 * q + place) (byte_once _ _ (sym byte_is ∙ same ∙ byte_was))

    pub other_byte : ¬ (byte (configuration_word after q) place ≡ byte old place)
        → joined (span_in (range_as after.profile after.entries (configuration_of (byte (configuration_word after q) place)).matching
        (4 * q + place)))
        (span_in (range_as after.profile after.entries (configuration_of (byte old place)).matching (4 * q + place)))
        ≡ moved_at before after (4 * q + place)
    unfolding range_on
    other_byte differs =
        (λ j. joined (span_in (range_as after.profile after.entries
        (word_entry after q (configuration_word after q) refl place near there j).matching (4 * q + place)))
        (span_in (range_as after.profile after.entries (word_entry before q old old_is place near there j).matching
        (4 * q + place))))
        ∙ other_moves (4 * q + place) (λ same. differs (byte_is ∙ same ∙ sym byte_was))

    pub past_byte : length after.entries ≤ 4 * q + place → None ≡ moved_at before after (4 * q + place)
    past_byte past = sym (past_at before after (4 * q + place)
        (omega (arith, past, length-written before (Cfg q) value)) past)
