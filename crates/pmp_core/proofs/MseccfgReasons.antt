-- mseccfg is stored as written exactly where there is no reason.
use borrow.Author.Tests.{tests}
use Rattle.std.proofs.Common.{rules, ◌≡◌, ℕ, ◌+◌, ◌*◌, ◌/◌, ◌%◌, Bool, true, false, not}
use Rattle.std.proofs.Common.{◌&&◌, ◌||◌, ◌==◌, refl}
use Rattle.std.proofs.lemmas.Bool.{and_right, or_from}
use Rattle.pmp_core.specs.declared.csr.Csr.TheVariants.{Mseccfg, Mseccfgh}
use Rattle.pmp_core.specs.Configuration.{bit_of}
use Rattle.pmp_core.specs.declared.mseccfg.MseccfgFields.{MseccfgFields}
use Rattle.pmp_core.specs.Mseccfg.{mseccfg_value, mseccfg_written}
use Rattle.pmp_core.specs.RegisterFile.{RegisterFile, reset_mseccfg, IsLegal}
use Rattle.pmp_core.specs.RegisterValue.{register_value}
use Rattle.pmp_core.specs.RegisterWrite.{is_any_locked, written}
use Rattle.pmp_core.proofs.EachReason.{none_at_entries, HasNone}
use Rattle.pmp_core.proofs.StoredBytes.{not_same}

-- and a bit that is as written has no reason
was_kept : (before new : Bool) → (before || new) ≡ new → (before && not new) ≡ false
was_kept before new h = search rules

has_risen : (before any new : Bool) → (new && (before || not any)) ≡ new → (new && not before && any) ≡ false
has_risen before any new h = search rules

bits_of_value : (a b c : Bool) (value : ℕ) → bit_of a + 2 * bit_of b + 4 * bit_of c ≡ value
    → (a ≡ (value % 2 == 1)) × (b ≡ (value / 2 % 2 == 1)) × (c ≡ (value / 4 % 2 == 1)) × (value / 8 ≡ 0)
bits_of_value a b c value same = search rules

module _ (file : RegisterFile) (legal : IsLegal file) (value : ℕ) where
  abbrev new : MseccfgFields
  new = mseccfg_written file.mseccfg (is_any_locked file.entries) value

  -- what the write leaves, on a hart that has the register and on one that hasn't
  left : file.profile.has_smepmp ≡ true → (written file Mseccfg value).mseccfg ≡ new
  left has = rw has refl

  left_plain : file.profile.has_smepmp ≡ false → (written file Mseccfg value).mseccfg ≡ reset_mseccfg
  left_plain has = rw has (legal.plain has)

  pub mseccfg_stored : HasNone file Mseccfg value → register_value (written file Mseccfg value) Mseccfg ≡ value
  mseccfg_stored none = search (rules, tests)

  reasonless_there : file.profile.has_smepmp ≡ true → mseccfg_value new ≡ value → HasNone file Mseccfg value
  reasonless_there has same =
      search (rules, tests, bits_of_value, and_right, not_same, none_at_entries, or_from, was_kept, has_risen)

  -- without Smepmp nothing but zero is stored, and zero has no reason
  reasonless_zero : file.profile.has_smepmp ≡ false → value ≡ 0 → HasNone file Mseccfg value
  reasonless_zero none zero_value = search (rules, tests, none_at_entries, and_right)

  pub mseccfg_reasonless : register_value (written file Mseccfg value) Mseccfg ≡ value → HasNone file Mseccfg value
  mseccfg_reasonless same = search (rules, tests, reasonless_there, left, reasonless_zero, left_plain)

-- ---- mseccfgh

module _ (file : RegisterFile) (value : ℕ) where
  pub mseccfgh_stored : HasNone file Mseccfgh value → register_value (written file Mseccfgh value) Mseccfgh ≡ value
  mseccfgh_stored none = search rules

  pub mseccfgh_reasonless : value ≡ 0 → HasNone file Mseccfgh value
  mseccfgh_reasonless zero_value = search (rules, tests, none_at_entries, and_right)
