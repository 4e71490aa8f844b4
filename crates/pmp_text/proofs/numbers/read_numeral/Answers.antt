use Rattle.std.proofs.Common.{arith}
use Rattle.std.proofs.lemmas.Grind.{common_steps}
use Rattle.pmp_text.proofs.Digits.{too_large, one_digit_more, still_digits}
use Rattle.pmp_text.proofs.numbers.read_numeral.Goals as goal

pub returns-in_err-value : goal.returns-in_err-value
returns-in_err-value c =
    rw c.from_residual-in_err-value.ensures (too_large c.args.radix c.args.most c.args.digits.now c.loop-byte.byte-index
    c.loop-byte.value c.loop-byte-test.true c.requires.low c.loop-byte.invariant.value
    (grind (arith, common_steps)))

pub loop-byte-preserved : goal.loop-byte-preserved
loop-byte-preserved c = record {
  value = one_digit_more c.args.radix c.args.digits.now c.loop-byte.byte-index c.loop-byte.value c.in_ok-value.value
      c.loop-byte-test.true c.loop-byte.invariant.value (grind (arith, common_steps));
  digits = still_digits c.args.radix c.args.digits.now c.loop-byte.byte-index c.loop-byte-test.true
      c.loop-byte.invariant.digits (grind (arith, common_steps));
  small = grind (arith, common_steps);
}
