-- The file that plain numbers stand for, part by part.
use borrow.Author.Tests.{tests}
use Rattle.std.proofs.Common.{rules, ◌≡◌, ℕ, ◌-◌, ◌^◌, ◌%◌, ◌<◌, ◌≤◌, List, length, slice_index, refl, true}
use Rattle.std.proofs.Common.{sym, ap, ◌∙◌, arith}
use Rattle.std.proofs.Math.Nat.{mod-lt}
use Rattle.std.proofs.Math.Pow.{pow_mono}
use Rattle.std.proofs.lemmas.List.{get_or_past}
use Rattle.pmp_core.specs.Entry.{Entry}
use Rattle.pmp_core.specs.declared.register_write.TheConstants.{WORD_ADDRESSES}
use Rattle.pmp_core.specs.declared.saved_registers.SavedRegisters.{SavedRegisters}
use Rattle.pmp_core.specs.Hart.{word_addresses}
use Rattle.pmp_core.specs.RegisterFile.{RegisterFile, reset_entry, entry_at}
use Rattle.pmp_core.specs.RegisterWrite.{stored_over}
use Rattle.pmp_core.specs.SavedRegisters.{hart_in, fields_in, restored_entry, restored_entries, restored_file}
use Rattle.pmp_core.proofs.HartNumbers.{is_hart}
use Rattle.pmp_core.proofs.Legal.{narrow_bits, zero_fits}
use Rattle.pmp_core.proofs.Places.{entries_by}
use Rattle.pmp_core.proofs.Saved.{restored_at, length-restored}

abbrev pub count_in : SavedRegisters → ℕ
count_in saved = (hart_in saved).entries

module _ (saved : SavedRegisters) where
  pub few_in : count_in saved ≤ 64
  few_in = (is_hart saved.entries).few

  pub profile_in : (restored_file saved).profile ≡ hart_in saved
  unfolding restored_file
  profile_in = refl

  entries_in : (restored_file saved).entries ≡ restored_entries saved (count_in saved)
  unfolding restored_file
  entries_in = refl

  pub mseccfg_in : (restored_file saved).mseccfg ≡ fields_in saved
  unfolding restored_file
  mseccfg_in = refl

  pub length_in : length (restored_file saved).entries ≡ count_in saved
  length_in = ap (λ (entries : List Entry). length entries) entries_in ∙ length-restored saved (count_in saved)

  pub entry_in : (i : ℕ) → i < length (restored_file saved).entries
      → entry_at (restored_file saved).entries i ≡ restored_entry saved i
  entry_in i inside = search (rules, tests, entries_in, restored_at, length_in)

  -- an address has no more than 54 bits
  pub few_bits : (i : ℕ) → (restored_entry saved i).address < WORD_ADDRESSES
  few_bits i =
      let most : 2 ^ ((hart_in saved).address_bits - 2) ≤ 2 ^ 54 =
      pow_mono {i = (hart_in saved).address_bits - 2} {j = 54} (omega (arith, narrow_bits (hart_in saved) (is_hart saved.entries))) in
      omega (arith, mod-lt (slice_index saved.addresses i) (zero_fits (hart_in saved)))

-- entry i of a file; where there is none, one that matches nothing
pub entry_past : (file : RegisterFile) (i : ℕ) → length file.entries ≤ i → entry_at file.entries i ≡ reset_entry
entry_past file i past = get_or_past file.entries i reset_entry past

-- the numbers stand for a file where they do part by part
pub file_is : (saved : SavedRegisters) (file : RegisterFile) → hart_in saved ≡ file.profile
    → fields_in saved ≡ file.mseccfg → length file.entries ≡ file.profile.entries
    → ((i : ℕ) → i < length file.entries → entry_at file.entries i ≡ restored_entry saved i)
    → restored_file saved ≡ file
unfolding restored_file
file_is saved file hart fields count each = search (rules, tests, entries_by)

-- the file as a view has it
module _ (saved : SavedRegisters) (file : RegisterFile) (is : restored_file saved ≡ file) (i : ℕ)
    (inside : i < length file.entries) where
  pub near : i < 64
  near = omega (arith, few_in saved, length_in saved, ap (λ (f : RegisterFile). length f.entries) is)

  pub entry_seen : restored_entry saved i ≡ entry_at file.entries i
  entry_seen = search (rules, tests, entry_in)

-- entry i has the same address where that is kept as the same number, on one hart
module _ (one other : SavedRegisters) (file after : RegisterFile) (is : restored_file one ≡ file)
    (too : restored_file other ≡ after) (i : ℕ) (inside : i < length file.entries) (within : i < length after.entries)
    (hart : file.profile ≡ after.profile) where
  same_hart : hart_in one ≡ hart_in other
  same_hart = search (rules, tests, profile_in)

  pub same_address_by_number : slice_index one.addresses i ≡ slice_index other.addresses i
      → (entry_at file.entries i).address ≡ (entry_at after.entries i).address
  same_address_by_number address =
      let restored : (restored_entry one i).address ≡ (restored_entry other i).address =
      (λ j. address j % word_addresses (same_hart j)) in
      ap (λ (e : Entry). e.address) (sym (entry_seen one file is i inside)) ∙ restored
      ∙ ap (λ (e : Entry). e.address) (entry_seen other after too i within)

-- entry i is the same where it is kept as the same numbers, on one hart with one mseccfg
module _ (one other : SavedRegisters) (file after : RegisterFile) (is : restored_file one ≡ file)
    (too : restored_file other ≡ after) (i : ℕ) (inside : i < length file.entries) (within : i < length after.entries)
    (hart : file.profile ≡ after.profile) (mseccfg : file.mseccfg ≡ after.mseccfg) where
  same_fields : fields_in one ≡ fields_in other
  same_fields = search (rules, tests, mseccfg_in)

  pub same_by_numbers : slice_index one.addresses i ≡ slice_index other.addresses i
      → slice_index one.configurations i ≡ slice_index other.configurations i
      → entry_at file.entries i ≡ entry_at after.entries i
  same_by_numbers address byte =
      let restored : restored_entry one i ≡ restored_entry other i = (λ j. record {
        configuration = stored_over (same_hart one other file after is too i inside within hart j).grain (same_fields j).mml true reset_entry.configuration (byte j);
        address = address j % word_addresses (same_hart one other file after is too i inside within hart j);
      }) in
      sym (entry_seen one file is i inside) ∙ restored ∙ entry_seen other after too i within
