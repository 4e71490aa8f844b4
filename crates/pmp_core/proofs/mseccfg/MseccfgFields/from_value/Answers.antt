use Rattle.std.proofs.Common.{◌≡◌, ℕ, ◌%◌, ◌==◌, refl, ap, ◌∙◌}
use Rattle.std.specs.Int.RustNames.{bit_and}
use Rattle.std.proofs.Math.Nat.{div-one}
use Rattle.pmp_core.proofs.Flags.{flag_is_bit}
use Rattle.pmp_core.proofs.mseccfg.MseccfgFields.from_value.Goals as goal

pub returns : goal.returns
returns c =
    let value = c.args.value in
    let lowest : (bit_and value 1 == 1) ≡ (value % 2 == 1) =
    flag_is_bit value 0 ∙ ap (λ (n : ℕ). n % 2 == 1) (div-one value) in
    rw (
      c.contains.ensures tt,
      c.contains-2.ensures tt,
      c.contains-3.ensures tt,
      c.from_bits_retain-set.ensures tt,
      lowest,
      flag_is_bit value 1,
      flag_is_bit value 2,
    ) refl
