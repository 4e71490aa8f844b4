use Rattle.std.proofs.Common.{◌≡◌, ℕ, ◌∙◌, ◌+◌, ◌==◌, not, ap, arith}
use Rattle.pmp_core.specs.Bytes.{byte}
use Rattle.pmp_core.specs.WriteReasons.{has_bit_6_or_5}
use Rattle.pmp_core.proofs.FlaggedReasons.{any_byte}
use Rattle.pmp_core.proofs.StoredBytes.{read_back}
use Rattle.pmp_core.proofs.WordBytes.{byte_small}
use Rattle.pmp_core.proofs.registers.Registers.has_other_bits.Goals as goal

pub returns-in-Cfg : goal.returns-in-Cfg
returns-in-Cfg c =
    let value = c.args.value in
    rw c.in-Cfg.is (any_byte c.plain.result value c.plain.type_inv c.ranges.value.fits 0 (λ j. has_bit_6_or_5 (byte value j)) (λ j near.
    ap (λ (b : ℕ). not (b == byte value j)) (c.plain.ensures j near)
    ∙ ap not (read_back (byte value j) (byte_small value j))
    ∙ ap (λ k. has_bit_6_or_5 (byte value k)) (let same : j ≡ 0 + j = omega arith in same)))
