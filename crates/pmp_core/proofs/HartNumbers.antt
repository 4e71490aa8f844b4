-- Harts as numbers.
use borrow.Author.Tests.{tests}
use Rattle.std.proofs.Common.{rules, ◌≡◌, ℕ, ◌+◌, ◌*◌, ◌/◌, ◌^◌, ◌≤◌, true, false, MatchOption, Option}
use Rattle.std.proofs.Common.{refl, ◌∙◌, arith}
use Rattle.std.proofs.lemmas.Bool.{and_parts, or_cases, eqb-true, eq-eqb, ne_eqb, not-true}
use Rattle.pmp_core.specs.Configuration.{bit_of}
use Rattle.pmp_core.specs.declared.hart.Profile.{Profile}
use Rattle.pmp_core.specs.Hart.{IsProfile, profile_with, profile_of}
use Rattle.pmp_core.specs.declared.size.Size.{Size}
use Rattle.pmp_core.specs.SavedRegisters.{is_usual, hart_number, spelled_hart, spells_hart, names_hart, saved_hart}

pub usual : (n : ℕ) → n ≤ 64 → IsProfile (profile_with n)
usual n few = record { few = few; fine = omega arith; wide = omega arith; narrow = omega arith }

pub is_profile_of : (size : Size) → IsProfile (profile_of size)
is_profile_of size = search rules

-- ---- whether there is a hart

-- ---- every number stands for a hart

pub is_hart : (number : ℕ) → IsProfile (saved_hart number)
unfolding saved_hart
is_hart number = search rules

pub saved_16 : saved_hart 16 ≡ profile_with 16
unfolding saved_hart
saved_16 = refl

pub saved_64 : saved_hart 64 ≡ profile_with 64
unfolding saved_hart
saved_64 = refl

-- what a number stands for that spells none, with bits 63 to 32 other than 1, or 1
pub saved_other : (number : ℕ) → (number / 2 ^ 32 ≡ 1 → ⊥) → (number ≡ 64 → ⊥) → saved_hart number ≡ profile_with 16
unfolding saved_hart
saved_other number other few = rw (ne_eqb (number / 2 ^ 32) 1 other, ne_eqb number 64 few) refl

pub saved_spelled : (number : ℕ) → spells_hart number ≡ true → saved_hart number ≡ spelled_hart number
unfolding saved_hart
saved_spelled number is = rw is refl

pub saved_unspelled : (number : ℕ) → number / 2 ^ 32 ≡ 1 → spells_hart number ≡ false
    → saved_hart number ≡ profile_with 16
unfolding saved_hart
saved_unspelled number marked none = search rules

-- ---- which numbers name one

pub named_16 : (number : ℕ) → number ≡ 16 → names_hart number ≡ true
unfolding names_hart
named_16 number is = rw (eq-eqb number 16 is) refl

pub named_64 : (number : ℕ) → number ≡ 64 → names_hart number ≡ true
unfolding names_hart
named_64 number is = rw is refl

module _ (number : ℕ) (few : number ≡ 16 → ⊥) (many : number ≡ 64 → ⊥) where
  named_plain : names_hart number ≡ spells_hart number
  unfolding names_hart
  named_plain = rw (ne_eqb number 16 few, ne_eqb number 64 many) refl

  pub named_unmarked : (number / 2 ^ 32 ≡ 1 → ⊥) → names_hart number ≡ false
  named_unmarked other = named_plain ∙ rw (ne_eqb (number / 2 ^ 32) 1 other) refl

  pub named_spelled : (hart : Option Profile)
      → MatchOption hart (spells_hart number ≡ false) (λ h. (spells_hart number ≡ true) × (h ≡ spelled_hart number))
      → MatchOption hart (names_hart number ≡ false) (λ h. (names_hart number ≡ true) × (h ≡ saved_hart number))
  named_spelled hart none = search (rules, tests, named_plain, saved_spelled)

-- ---- and each hart has one

module _ (profile : Profile) (is : IsProfile profile) where
  usual_back : is_usual profile ≡ true → saved_hart profile.entries ≡ profile
  usual_back h = search (rules, tests, and_parts, not-true, eqb-true, or_cases, saved_16, saved_64)

  spelled_back : saved_hart (profile.entries + 2 ^ 8 * profile.address_bits + 2 ^ 16 * bit_of profile.has_smepmp
      + 2 ^ 17 * bit_of profile.is_rv32 + 2 ^ 24 * profile.grain + 2 ^ 32) ≡ profile
  unfolding saved_hart
  spelled_back = search rules

  pub number_back : saved_hart (hart_number profile) ≡ profile
  unfolding hart_number
  number_back = search (rules, tests, usual_back, spelled_back)

  spelled_name : spells_hart (profile.entries + 2 ^ 8 * profile.address_bits + 2 ^ 16 * bit_of profile.has_smepmp
      + 2 ^ 17 * bit_of profile.is_rv32 + 2 ^ 24 * profile.grain + 2 ^ 32) ≡ true
  spelled_name = search rules

  usual_name : is_usual profile ≡ true → names_hart profile.entries ≡ true
  usual_name h = search (rules, tests, and_parts, or_cases, named_16, eqb-true, named_64)

  -- the number of a hart names it
  pub named_number : names_hart (hart_number profile) ≡ true
  unfolding hart_number names_hart
  named_number = search (rules, tests, usual_name, spelled_name)
