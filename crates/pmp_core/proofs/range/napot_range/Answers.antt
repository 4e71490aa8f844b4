use Rattle.std.proofs.Common.{◌≡◌, ◌∙◌, ◌*◌, ◌+◌, ◌%◌, ◌^◌, bit_and, bit_or, arith}
use Rattle.std.proofs.Math.Nat.{mod-eq_of_lt}
use Rattle.std.proofs.lemmas.Nat.{and_le_l}
use Rattle.pmp_core.specs.Ranges.{napot_range}
use Rattle.pmp_core.proofs.Napot.{either_small, end_is, start_is}
use Rattle.pmp_core.proofs.range.napot_range.Goals as goal

pub overflow_add-result : goal.overflow_add-result
overflow_add-result c = let small = either_small c.args.address c.requires in omega arith

pub returns : goal.returns
returns c =
    let a = c.args.address in
    let small = either_small a c.requires in
    let low : bit_and a (a + 1) * 4 % 2 ^ 64 ≡ bit_and a (a + 1) * 4 = mod-eq_of_lt (omega (arith, and_le_l a (a + 1), c.requires)) in
    let high : (bit_or a (a + 1) + 1) * 4 % 2 ^ 64 ≡ (bit_or a (a + 1) + 1) * 4 = mod-eq_of_lt (omega arith) in
    let start : bit_and a (a + 1) * 4 % 2 ^ 64 ≡ (napot_range a).start = low ∙ omega (arith, start_is a c.requires) in
    let end : (bit_or a (a + 1) + 1) * 4 % 2 ^ 64 ≡ (napot_range a).end = high ∙ omega (arith, end_is a c.requires) in
    (λ i. record { start = start i; end = end i })
