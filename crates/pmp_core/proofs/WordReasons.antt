-- A configuration register is stored as written exactly where there is no reason.
use borrow.Author.Tests.{tests}
use Rattle.std.proofs.Common.{rules, ◌≡◌, ℕ, ◌+◌, ◌-◌, ◌*◌, ◌^◌, ◌<◌, ◌≤◌, true, false, not, cond}
use Rattle.std.proofs.Common.{◌&&◌, nat_lt, length, refl, sym, ap, ◌∙◌, inl, inr, arith}
use Rattle.std.specs.Int.{w64, to_le_bytes}
use Rattle.std.proofs.lemmas.Bool.{cases_lt, cases_Bool, not-false, and_left, and_right, eq-eqb, le-ltb}
use Rattle.std.proofs.lemmas.List.{get_or_past}
use Rattle.pmp_core.specs.declared.csr.Csr.TheVariants.{Cfg}
use Rattle.pmp_core.specs.Entry.{Entry}
use Rattle.pmp_core.specs.declared.write_reasons.WriteReason.TheVariants.{Frozen, Tor, Reserved, Lockdown, Grain}
use Rattle.pmp_core.specs.Configuration.{Configuration, byte_of}
use Rattle.pmp_core.specs.Hart.{holds_byte_of}
use Rattle.pmp_core.specs.RegisterFile.{RegisterFile, entry_at, is_frozen}
use Rattle.pmp_core.specs.RegisterValue.{byte_in, configuration_word, register_value}
use Rattle.pmp_core.specs.RegisterWrite.{written}
use Rattle.pmp_core.specs.WriteReasons.{byte_for, changes_frozen, adds_reserved, adds_barred, is_too_fine}
use Rattle.pmp_core.proofs.AbsentBytes.{is_absent_byte, zero_byte, entry_byte, beside_zero}
use Rattle.pmp_core.proofs.Configuring.{byte_within, high_of, low_of, most_bytes}
use Rattle.pmp_core.proofs.Legal.{configured_place, length-written}
use Rattle.pmp_core.proofs.EachReason.{none_between, none_at, none_in, none_of, none_at_entry, none_at_entries, HasNone}
use Rattle.pmp_core.proofs.StoredBytes.{is_plain, byte_plain, IsTaken, left_of, taken, stored_as_taken}
use Rattle.pmp_core.specs.Bytes.{byte}
use Rattle.pmp_core.proofs.WordBytes.{byte_small, word_from, word_gives}

module _ (file : RegisterFile) (q value : ℕ) where
  abbrev n : ℕ
  n = length file.entries

  abbrev after : ℕ → Entry
  after i = entry_at (written file (Cfg q) value).entries i

  byte_at_place : (j : ℕ) → byte_for q value (4 * q + j) ≡ byte value j
  byte_at_place j = let place : 4 * q + j - 4 * q ≡ j = omega arith in rw place refl

  -- ---- what the write leaves of an entry

  -- nothing keeps entry i from its byte
  abbrev Takes : ℕ → Type 0
  Takes i = IsTaken file.profile.grain (is_frozen file i) file.mseccfg.mml file.mseccfg.rlb
      (entry_at file.entries i).configuration (byte_for q value i)

  abbrev left : ℕ → Configuration
  left i = left_of file.profile.grain (is_frozen file i) file.mseccfg.mml file.mseccfg.rlb
      (entry_at file.entries i).configuration (byte_for q value i)

  left_there : (i : ℕ) → holds_byte_of file.profile q i ≡ true → i < n → (after i).configuration ≡ left i
  left_there i holds inside = search (rules, tests, configured_place)

  reads_zero_past : (i : ℕ) → n ≤ i → byte_of (after i).configuration ≡ 0
  reads_zero_past i past = search (rules, tests, get_or_past, length-written)

  -- ---- no reason, so stored

  module _ (none : HasNone file (Cfg q) value) where
    plain_there : (i : ℕ) → holds_byte_of file.profile q i ≡ true → is_plain (byte_for q value i) ≡ true
    plain_there i holds =
        let low = low_of file.profile q i holds in
        let high = high_of file.profile q i holds in
        let most = most_bytes file.profile q in
        not-false _ (none_of (λ b. not (is_plain b)) (to_le_bytes w64 value) (i - 4 * q) none.bits (omega arith))

    takes : (i : ℕ) → holds_byte_of file.profile q i ≡ true → i < n → Takes i
    takes i holds inside = record {
      plain = plain_there i holds;
      unfrozen = rw holds at (none_at_entry Frozen file (Cfg q) value none.frozen i inside);
      unreserved = rw holds at (none_at_entry Reserved file (Cfg q) value none.reserved i inside);
      unbarred = rw holds at (none_at_entry Lockdown file (Cfg q) value none.lockdown i inside);
      coarse = rw holds at (none_at_entry Grain file (Cfg q) value none.grain i inside);
    }

    -- an entry of the unit reads its byte
    reads_there : (i : ℕ) → holds_byte_of file.profile q i ≡ true → i < n → byte_of (after i).configuration ≡ byte_for q value i
    reads_there i holds inside = search (rules, tests, left_there, taken, byte_small, takes)

    -- a byte for no entry is zero
    zero_there : (i : ℕ) → 4 * q ≤ i → i < 4 * q + 8 → (holds_byte_of file.profile q i && nat_lt i n) ≡ false
        → byte_for q value i ≡ 0
    zero_there i low high no_entry =
        let here = none_at (is_absent_byte file.profile n q value) (4 * q) 8 i none.absent low high in
        beside_zero file.profile n q value i here no_entry

    -- and is read where the entry would be
    reads_past : (i : ℕ) → holds_byte_of file.profile q i ≡ true → n ≤ i → byte_of (after i).configuration ≡ byte_for q value i
    reads_past i holds past =
        search (rules, tests, reads_zero_past, zero_there, low_of, high_of, most_bytes, and_right, le-ltb)

    byte_read : (j : ℕ) → j < 8 → byte value j ≡ byte_in (written file (Cfg q) value) q (4 * q + j)
    byte_read j near = elim (cases_Bool (holds_byte_of file.profile q (4 * q + j))) [
      | inl holds ↦
          let i = 4 * q + j in
          let reads : byte_of (after i).configuration ≡ byte_for q value i = elim (cases_lt i n) [
            | inl inside ↦ reads_there i holds inside
            | inr past ↦ reads_past i holds past
          ] in
          rw holds (sym (reads ∙ byte_at_place j))
      | inr other ↦ rw other (sym (byte_at_place j)
          ∙ zero_there (4 * q + j) (omega arith) (omega arith) (and_left _ _ other))
    ]

    pub word_stored : value < 2 ^ 64 → register_value (written file (Cfg q) value) (Cfg q) ≡ value
    unfolding configuration_word
    word_stored small = word_from (λ j. byte_in (written file (Cfg q) value) q (4 * q + j)) value small byte_read

  -- ---- stored, so no reason

  module _ (same : register_value (written file (Cfg q) value) (Cfg q) ≡ value) where
    reads_byte : (j : ℕ) → j < 8 → byte value j ≡ byte_in (written file (Cfg q) value) q (4 * q + j)
    unfolding configuration_word
    reads_byte j near = word_gives (λ j. byte_in (written file (Cfg q) value) q (4 * q + j)) value
        (λ j _. byte_within (written file (Cfg q) value) q (4 * q + j)) same j near

    reads_in : (i : ℕ) → 4 * q ≤ i → i < 4 * q + 8 → byte_for q value i ≡ byte_in (written file (Cfg q) value) q i
    reads_in i low high =
        let place : 4 * q + (i - 4 * q) ≡ i = omega arith in
        rw place at (reads_byte (i - 4 * q) (omega arith))

    reads_entry : (i : ℕ) → holds_byte_of file.profile q i ≡ true → byte_for q value i ≡ byte_of (after i).configuration
    reads_entry i holds = search (rules, tests, reads_in, low_of, high_of, most_bytes)

    was_taken : (i : ℕ) → holds_byte_of file.profile q i ≡ true → i < n → Takes i
    was_taken i holds inside = stored_as_taken _ _ _ _ _ _ (byte_small value (i - 4 * q)) refl
        (sym (ap byte_of (left_there i holds inside)) ∙ sym (reads_entry i holds))

    reads_plain : (j : ℕ) → j < 8 → is_plain (byte value j) ≡ true
    reads_plain j near = rw (reads_byte j near)
        (elim (holds_byte_of file.profile q (4 * q + j)) as
        (λ holds. is_plain (cond holds (byte_of (after (4 * q + j)).configuration) 0) ≡ true) [
          | true ↦ eq-eqb _ 0 (byte_plain (after (4 * q + j)).configuration).0
          | false ↦ refl
        ])

    -- the bytes for no entry: past the last of the unit, and those of which the register holds none
    zero_past : (i : ℕ) → holds_byte_of file.profile q i ≡ true → n ≤ i → byte_for q value i ≡ 0
    zero_past i holds past = reads_entry i holds ∙ reads_zero_past i past

    zero_other : (i : ℕ) → 4 * q ≤ i → i < 4 * q + 8 → holds_byte_of file.profile q i ≡ false → byte_for q value i ≡ 0
    zero_other i low high other = reads_in i low high ∙ rw other refl

    none_absent : (i : ℕ) → 4 * q ≤ i → i < 4 * q + 8 → is_absent_byte file.profile n q value i ≡ false
    none_absent i low high = search (rules, tests, entry_byte, zero_byte, zero_past, zero_other)

    -- none of the reasons that entry i can have
    abbrev IsFine : ℕ → Type 0
    IsFine i = (changes_frozen file (Cfg q) value i ≡ false) × (adds_reserved file (Cfg q) value i ≡ false)
        × (adds_barred file (Cfg q) value i ≡ false) × (is_too_fine file (Cfg q) value i ≡ false)

    fine : (i : ℕ) → i < n → IsFine i
    fine i inside = search (rules, tests, was_taken, and_right)

    pub word_reasonless : HasNone file (Cfg q) value
    word_reasonless = record {
      absent = none_between (is_absent_byte file.profile n q value) (4 * q) 8 none_absent;
      bits = none_in (λ b. not (is_plain b)) (to_le_bytes w64 value)
          (λ j near. rw (reads_plain j near) refl);
      frozen = none_at_entries Frozen file (Cfg q) value (λ i inside. (fine i inside).0);
      tor = none_at_entries Tor file (Cfg q) value (λ i inside. refl);
      reserved = none_at_entries Reserved file (Cfg q) value (λ i inside. (fine i inside).1);
      lockdown = none_at_entries Lockdown file (Cfg q) value (λ i inside. (fine i inside).2);
      sticky = refl;
      bypass = refl;
      grain = none_at_entries Grain file (Cfg q) value (λ i inside. (fine i inside).3);
    }
