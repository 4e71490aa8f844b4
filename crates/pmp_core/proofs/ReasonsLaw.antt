-- A write has no reason exactly where it is stored as written.
use borrow.Author.Tests.{tests}
use Rattle.std.proofs.Common.{rules}
use Rattle.std.proofs.Common.{◌≡◌, ℕ, ◌+◌, ◌*◌, ◌^◌, ◌<◌, Bool, true, false, cond, List, [], ◌∷◌, map, refl, sym, ap, arith}
use Rattle.std.specs.List.{filter}
use Rattle.pmp_core.specs.declared.csr.Csr.{Csr}
use Rattle.pmp_core.specs.declared.csr.Csr.TheVariants.{Cfg, Addr, Mseccfg, Mseccfgh}
use Rattle.pmp_core.specs.declared.write_reasons.Reasons.{Reasons}
use Rattle.pmp_core.specs.declared.write_reasons.WriteReason.{WriteReason}
use Rattle.pmp_core.specs.Configuration.{bit_of}
use Rattle.pmp_core.specs.RegisterFile.{RegisterFile, IsLegal}
use Rattle.pmp_core.specs.RegisterValue.{register_value}
use Rattle.pmp_core.specs.RegisterWrite.{written}
use Rattle.pmp_core.specs.WriteReasons.{all_reasons, bits_of, is_reason, reasons_of}
use Rattle.pmp_core.specs.WriteReasonsLaw.{WriteReasonsLaw}
use Rattle.pmp_core.proofs.EachReason.{HasNone, has_none, no_reasons}
use Rattle.pmp_core.proofs.AddressReasons.{address_stored, address_reasonless}
use Rattle.pmp_core.proofs.MseccfgReasons.{mseccfg_stored, mseccfg_reasonless, mseccfgh_stored, mseccfgh_reasonless}
use Rattle.pmp_core.proofs.WordReasons.{word_stored, word_reasonless}

stored : (file : RegisterFile) → IsLegal file → (csr : Csr) (value : ℕ) → value < 2 ^ 64
    → HasNone file csr value → register_value (written file csr value) csr ≡ value
stored file legal (Cfg q) value small none = word_stored file q value none small
stored file legal (Addr i) value small none = address_stored file legal i value none
stored file legal Mseccfg value small none = mseccfg_stored file legal value none
stored file legal Mseccfgh value small none = mseccfgh_stored file value none

reasonless : (file : RegisterFile) → IsLegal file → (csr : Csr) (value : ℕ) → value < 2 ^ 64
    → register_value (written file csr value) csr ≡ value → HasNone file csr value
reasonless file legal (Cfg q) value small same = word_reasonless file q value same
reasonless file legal (Addr i) value small same = address_reasonless file legal i value same
reasonless file legal Mseccfg value small same = mseccfg_reasonless file legal value same
reasonless file legal Mseccfgh value small same = mseccfgh_reasonless file value (sym same)

pub write_reasons_law : WriteReasonsLaw
write_reasons_law file legal csr value small = search (rules, tests, stored, has_none, no_reasons, reasonless)

no_bit : (b : Bool) → bit_of b ≡ 0 → b ≡ false
no_bit b e = search rules

-- a sum of bits is zero exactly where none is set
none_set : {X : Type 0} (p : X → Bool) (xs : List X) → filter p xs ≡ [] → bits_of (map p xs) ≡ 0
unfolding bits_of
none_set p [] none = refl
none_set p (x ∷ xs) none = elim (p x) as (λ b. cond b (x ∷ filter p xs) (filter p xs) ≡ []
    → bit_of b + 2 * bits_of (map p xs) ≡ 0) [
      | true ↦ λ e. absurd cc
      | false ↦ λ e. omega (arith, none_set p xs e)
    ] none

set_none : {X : Type 0} (p : X → Bool) (xs : List X) → bits_of (map p xs) ≡ 0 → filter p xs ≡ []
unfolding bits_of
set_none p [] none = refl
set_none p (x ∷ xs) none =
    let here : p x ≡ false = no_bit (p x) (omega arith) in
    rw here (set_none p xs (omega arith))

module _ (file : RegisterFile) (csr : Csr) (value : ℕ) (legal : IsLegal file) (small : value < 2 ^ 64) where
  abbrev holds : WriteReason → Bool
  holds reason = is_reason reason file csr value

  pub reads_value : register_value (written file csr value) csr ≡ value → reasons_of file csr value ≡ record { 0 = 0 }
  reads_value same = ap (λ (n : ℕ). let reasons : Reasons = record { 0 = n } in reasons)
      (none_set holds all_reasons ((write_reasons_law file legal csr value small).1 same))

  pub without_reason : (reasons_of file csr value).0 ≡ 0 → register_value (written file csr value) csr ≡ value
  without_reason zero_is =
      (write_reasons_law file legal csr value small).0 (set_none holds all_reasons zero_is)
