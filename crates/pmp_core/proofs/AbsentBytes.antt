-- Bytes for no entry of the unit.
use Rattle.std.proofs.Common.{rules, ◌≡◌, ℕ, ◌<◌, Bool, true, false, not, ◌&&◌, ◌==◌, nat_lt}
use Rattle.std.proofs.Common.{refl}
use Rattle.std.proofs.lemmas.Bool.{not-false, and_left, and_right}
use Rattle.std.proofs.lemmas.Bool.{eqb-true}
use Rattle.std.proofs.lemmas.Bool.{lt-ltb}
use Rattle.pmp_core.specs.declared.hart.Profile.{Profile}
use Rattle.pmp_core.specs.Hart.{holds_byte_of}
use Rattle.pmp_core.specs.WriteReasons.{byte_for}
use Rattle.pmp_core.proofs.StoredBytes.{and_true, not_same}

-- the byte isn't zero, and a unit of n entries has none that pmpcfg q holds it for
abbrev pub is_absent_byte : Profile → (n q value i : ℕ) → Bool
is_absent_byte profile n q value i = not (byte_for q value i == 0) && not (holds_byte_of profile q i && nat_lt i n)

module _ (profile : Profile) (n q value i : ℕ) where
  pub zero_byte : byte_for q value i ≡ 0 → is_absent_byte profile n q value i ≡ false
  zero_byte zero = and_left (not (byte_for q value i == 0)) _ (not_same (byte_for q value i) 0 zero)

  pub entry_byte : holds_byte_of profile q i ≡ true → i < n → is_absent_byte profile n q value i ≡ false
  entry_byte holds inside = rw (holds, lt-ltb i n inside) (and_right (not (byte_for q value i == 0)) false refl)

  pub beside_zero : is_absent_byte profile n q value i ≡ false → (holds_byte_of profile q i && nat_lt i n) ≡ false
      → byte_for q value i ≡ 0
  beside_zero none no_entry = eqb-true _ 0 (not-false _ (and_true _ (rw no_entry at none)))

-- each is false where the other is
pub alike : (one other : Bool) → (one ≡ false → other ≡ false) → (other ≡ false → one ≡ false) → one ≡ other
alike one other h k = search rules
